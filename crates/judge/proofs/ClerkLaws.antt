-- Whose helper a transaction is: nobody's, or a plain one's and plain itself.
use Prim.Native.Nat.{ℕ}
use mathlib.Core.Path.{◌≡◌, refl}
use mathlib.Core.Bool.{Bool, true, false, cond, not, false≢true}
use mathlib.Core.List.{List}
use Rattle.tables.specs.Sorts.{is_known, is_plain, sort_of}
use Rattle.tables.specs.declared.Sort.{Sort}
use Rattle.tables.specs.declared.Sort.TheVariants.{Plain, Saga, Step, Undo, Unknown}
use Rattle.tables.specs.declared.Tables.{Tables}
use Rattle.rules.specs.States.{parent_of}
use Rattle.rules.specs.States.{Parent}
use Rattle.std.specs.Prelude.{None, Some}
use Rattle.rules.specs.declared.Transaction.{Transaction}
use Rattle.judge.specs.Judge.{clerk_of, plain_parent}

pub plain_known : (x : Sort) → is_plain x ≡ true → not (is_known x) ≡ false
plain_known (Saga f n) e = absurd (false≢true e)
plain_known (Step f n i) e = absurd (false≢true e)
plain_known (Undo f n i) e = absurd (false≢true e)
plain_known Plain e = refl
plain_known Unknown e = absurd (false≢true e)

module _ (tables : Tables) (ts : List Transaction) (t : ℕ) where
  pub record Helps (m : ℕ) : Type 0 where
    pub helper : is_plain (sort_of tables t) ≡ true
    pub clerk : is_plain (sort_of tables m) ≡ true
    pub told : parent_of ts t ≡ Some m

  module _ (A : Parent → Type 0) (none : clerk_of tables ts t ≡ None → A None) (some : (m : ℕ) → Helps m → A (Some m)) where
    by-sort : (m : ℕ) → is_plain (sort_of tables t) ≡ true → parent_of ts t ≡ Some m → (b : Bool) → is_plain (sort_of tables m) ≡ b → A (cond b (Some m) None)
    by-sort m plain told true e = some m (record { helper = plain; clerk = e; told = told })
    by-sort m plain told false e = none (rw (plain, told, e))

    by-parent : is_plain (sort_of tables t) ≡ true → (p : Parent) → parent_of ts t ≡ p → A (plain_parent tables p)
    by-parent plain None told = none (rw (plain, told))
    by-parent plain (Some m) told = by-sort m plain told (is_plain (sort_of tables m)) refl

    by-plain : (b : Bool) → is_plain (sort_of tables t) ≡ b → A (cond b (plain_parent tables (parent_of ts t)) None)
    by-plain true e = by-parent e (parent_of ts t) refl
    by-plain false e = none (rw e)

    pub by-clerk : A (clerk_of tables ts t)
    by-clerk = by-plain (is_plain (sort_of tables t)) refl
