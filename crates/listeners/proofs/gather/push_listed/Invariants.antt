use Rattle.std.proofs.Common.{◌≡◌, ◌++◌, drop, length}
use Rattle.listeners.specs.Keys.{keys_of}
use Rattle.listeners.specs.Others.{only}
use Rattle.listeners.specs.Listings.{operand_count, listed_uses}
use Rattle.listeners.specs.Tables.{is_unchanged}
use Rattle.listeners.proofs.gather.push_listed.Given as goal

abbrev pub invariant-loop-user : goal.invariant-loop-user
invariant-loop-user l = record {
  count : operand_count (drop l.user-index l.users) ≡ length l.rest;
  keys : l.keys.items ++ keys_of (only (is_unchanged l.changed) (listed_uses (drop l.user-index l.users) l.rest)) ≡ l.initial.keys.items ++ keys_of (only (is_unchanged l.changed) (listed_uses l.users l.operands));
}
