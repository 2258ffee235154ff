use Rattle.std.proofs.Common.{refl, inl, inr, subst}
use Rattle.ir_event.specs.types.Sound.{IsSound}
use Rattle.ir_event.specs.Modules.{module_in}
use Rattle.listeners_symbols.specs.Listeners.{kept_at}
use Rattle.listeners_symbols.proofs.Agreed.{followed_is_kept}
use Rattle.listeners_symbols.proofs.Looks.{within_most}
use Rattle.listeners_symbols.proofs.symbols.SymbolsAnalysis.told.Goals as goal

pub returns-in-Ok : goal.returns-in-Ok
returns-in-Ok c =
    let w = c.args.view.world.now in
    record {
      notified = record {
        reported = record {
          same = record { kind = refl; analysis = λ t. refl; most = λ e m n. refl };
          agrees = λ m step shows held. inl (held.0, followed_is_kept w.ctx c.args.event m (module_in w) (subst IsSound c.context.ensures c.sound.ensures) step (kept_at c.args.self.now.roles) (kept_at c.follow.new.roles) held.1 c.in-Ok.ensures.followed);
          stale = λ h. h;
          notified = inl refl;
        };
        looks = λ m step shows held. within_most c.args.view.world.now c.args.event m step c.args.view.looks c.follow.new.view.looks c.follow.ensures.looks c.follow.ensures.take;
        world = c.follow.ensures.world;
      };
    }

pub returns-in-Err : goal.returns-in-Err
returns-in-Err c = record {
  notified = record {
    reported = record {
      same = record { kind = refl; analysis = λ t. refl; most = λ e m n. refl };
      agrees = λ m step shows held. inr refl;
      stale = λ h. refl;
      notified = inl refl;
    };
    looks = λ m step shows held. within_most c.args.view.world.now c.args.event m step c.args.view.looks c.follow.new.view.looks c.follow.ensures.looks c.follow.ensures.take;
    world = c.follow.ensures.world;
  };
}
