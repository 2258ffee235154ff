-- A parse of an operation's dictionaries stays within the capacity.
use Rattle.std.proofs.Common.{◌≡◌, ◌+◌, ℕ, [], Option, Some, None, refl, arith}
use Rattle.std.specs.Prelude.{if◌then◌else◌}
use Rattle.ir_text_tokens.specs.declared.token.Mark.TheVariants.{OpenCurly, CloseCurly, Less, Greater}
use Rattle.ir_text_types.specs.Outcomes.{Outcome, Read, Wrong, Full}
use Rattle.ir_text_types.specs.Typed.{Typed, after_typed}
use Rattle.ir_text_operations.specs.attributes.AttrReading.{Entries, key_at, attr_at}
use Rattle.ir_text_operations.specs.EntryReading.{refused_in, value_here, entry_at, entries_at, some_properties, properties_from, properties_at, attributes_from, attributes_at}
use Rattle.ir_text.proofs.Fits.{fits_to, Has, Good, wrong, reads, good_then, good_some, unless_good, list_good, text, things}
use Rattle.ir_text.proofs.Steps.{mark_fits}
use Rattle.ir_text.proofs.AttrHeadroom.{key_good, value_good, attr_good}

entry_good : (i j k : ℕ) (op : Option ℕ) (properties before : Entries) (s : Typed) → Has text things (i + 1) j k s → Good text things i j k (entry_at op properties before s)
unfolding entry_at
entry_good i j k op properties before s h =
    good_then text things (key_at s) _ (key_good i j k s h) (λ key f.
    good_then text things (if refused_in key.1.1 op properties key.0 before then Wrong else value_here 32 key.1) _ (unless_good text things (refused_in key.1.1 op properties key.0 before) (value_here 32 key.1) (value_good 32 (attr_at key.1.1.opaque 32) (attr_good key.1.1.opaque 32) i j k key.1 (fits_to f (omega arith) (omega arith) (omega arith)))) (λ a g.
    reads text things ((key.0, a.0), a.1) g))

entries_good : (i j k : ℕ) (op : Option ℕ) (properties : Entries) (s : Typed) → Has text things (i + 1) j k s → Good text things (i + 1) j k (entries_at op properties s)
unfolding entries_at
entries_good i j k op properties s h = list_good text things after_typed mark_fits CloseCurly refl (entry_at op properties) (i + 1) j k i j k (omega arith) (omega arith) (omega arith) (λ before s g. entry_good i j k op properties before s g) 513 s h

pub properties_good : (i j k : ℕ) (s : Typed) → Has text things i j k s → Good text things i j k (properties_at s)
unfolding properties_at some_properties
properties_good i j k s h = by (after_typed Less s) refl
  where
    by : (o : Option Typed) → after_typed Less s ≡ o → Good text things i j k (properties_from s o)
    by (Some c) e =
        good_some text things (after_typed OpenCurly c) _ (λ o f.
        good_then text things (entries_at None [] o) _ (entries_good i j k None [] o (fits_to (mark_fits OpenCurly refl (i + 1) (j + 1) (k + 1) c o f (mark_fits Less refl i j k s c e h)) (omega arith) (omega arith) (omega arith))) (λ es g.
        good_some text things (after_typed Greater es.1) _ (λ m n.
        reads text things (es.0, m) (fits_to (mark_fits Greater refl (i + 1) j k es.1 m n g) (omega arith) (omega arith) (omega arith)))))
    by None e = reads text things ([], s) h

pub attributes_good : (i j k op : ℕ) (properties : Entries) (s : Typed) → Has text things i j k s → Good text things i j k (attributes_at op properties s)
unfolding attributes_at
attributes_good i j k op properties s h = by (after_typed OpenCurly s) refl
  where
    less : (o : Outcome (Entries × Typed)) → Good text things (i + 1) j k o → Good text things i j k o
    less (Read x) g = reads text things x (fits_to g.still (omega arith) (omega arith) (omega arith))
    less Wrong g = wrong text things
    less Full g = absurd g.still

    by : (o : Option Typed) → after_typed OpenCurly s ≡ o → Good text things i j k (attributes_from op properties s o)
    by (Some c) e = less (entries_at (Some op) properties c) (entries_good i j k (Some op) properties c (fits_to (mark_fits OpenCurly refl i j k s c e h) (omega arith) (omega arith) (omega arith)))
    by None e = reads text things ([], s) h
