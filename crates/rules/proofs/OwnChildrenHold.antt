-- Whether a child of m's own is active, in words.
use mathlib.Core.Path.{refl}
use borrow.Author.Tests.{eq-eqb}
use Rattle.laws.proofs.Bools.{on_and}
use Rattle.laws.proofs.IndexLaws.{any-elim, any-intro}
use Rattle.terms.specs.Limits.{most_transactions}
use Rattle.rules.specs.Promises.{OwnChildren}
use Rattle.rules.specs.Rules.{active_child, child_active}
use Rattle.rules.specs.States.{is_active, is_under, parent_of, phase_of}
use Rattle.rules.proofs.PhaseLaws.{active-is, of-active}
use Rattle.rules.proofs.StateLaws.{under-is}

pub own-children : OwnChildren
unfolding child_active
own-children ts m = (
  λ h.
      let w = any-elim most_transactions (active_child ts m) h in
      let both = on_and (is_under m (parent_of ts w.0)) (is_active (phase_of ts w.0)) w.2 in
      record {
        child = w.0;
        low = w.1;
        under = under-is m (parent_of ts w.0) both.0;
        active = of-active (phase_of ts w.0) (active-is (phase_of ts w.0) both.1);
      },
  λ w. any-intro most_transactions (active_child ts m) w.child w.low (rw (w.under, w.active, eq-eqb m m refl)),
)
