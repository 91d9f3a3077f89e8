-- Transactions in numbers: what stands at each place, and what a store does.
use Prim.Native.Nat.{ℕ, ◌+◌, ◌-◌, ◌*◌, ◌/◌, ◌%◌, ◌≤◌, ◌<◌}
use native.Mathlib.Omega.{arith}
use mathlib.Core.Path.{◌≡◌, refl, sym, ap, ◌∙◌}
use mathlib.Core.List.{List, map}
use lib.ListN.{length, length-set, get_or, set, take, length-take, replicate, get_or-map}
use lib.Seq.{set_out}
use mathlib.Core.Bool.{true, false}
use borrow.Author.Tests.{lt-ltb, le-ltb, ltb-true, ne_eqb}
use Rattle.laws.proofs.Bools.{bool_cases}
use Rattle.laws.proofs.ListLaws.{map-set, take-low, take-set}
use Rattle.terms.specs.Limits.{most_transactions}
use Rattle.rules.specs.Lent.{cell_of, parent_code, parent_fits, phase_code, phase_in, put_in, with_phase, parent_by, parent_in, under_in, transaction_in, transactions_in, spawned_in}
use Rattle.rules.specs.States.{entered, idle, in_phase, parent_of, phase_of, spawned}
use Rattle.rules.specs.declared.Phase.{Phase}
use Rattle.rules.specs.declared.Phase.TheVariants.{Idle, Active, Committed, Aborted}
use Rattle.rules.specs.States.{Parent}
use Rattle.std.specs.Prelude.{None, Some}
use Rattle.rules.specs.declared.Transaction.{Transaction}
use Rattle.rules.proofs.PhaseLaws.{code-le}
use Rattle.rules.proofs.StateLaws.{past-free, past-idle}

phase-back : (p : Phase) (c : ℕ) → phase_in (with_phase p c) ≡ p
phase-back Idle c = let low : (c / 4 * 4 + 0) % 4 ≡ 0 = omega arith in rw low
phase-back Active c = let low : (c / 4 * 4 + 1) % 4 ≡ 1 = omega arith in rw low
phase-back Committed c = let low : (c / 4 * 4 + 2) % 4 ≡ 2 = omega arith in rw low
phase-back Aborted c = let low : (c / 4 * 4 + 3) % 4 ≡ 3 = omega arith in rw low

-- and whose child it is stays
parent-kept : (p : Phase) (c : ℕ) → parent_in (with_phase p c) ≡ parent_in c
parent-kept p c = let high : (c / 4 * 4 + phase_code p) / 4 ≡ c / 4 = omega (arith, code-le p) in ap (λ (k : ℕ). parent_by (k % 128)) high

small-part : (r : ℕ) → r < 128 → r % 128 ≡ r
small-part r h = omega arith

low_part : (q r : ℕ) → r < 128 → (q * 128 + r) % 128 ≡ r
low_part q r h = omega arith

-- the number of a child
under-is : (m c : ℕ) → m < most_transactions → transaction_in (under_in m c) ≡ record { phase = Active; parent = Some m }
under-is m c h =
    let low : under_in m c % 4 ≡ 1 = omega arith in
    let whole : under_in m c / 4 ≡ c / 512 * 128 + (m + 1) = omega arith in
    let high : under_in m c / 4 % 128 ≡ m + 1 = ap (λ (k : ℕ). k % 128) whole ∙ low_part (c / 512) (m + 1) (omega arith) in
    let back : m + 1 - 1 ≡ m = omega arith in
    rw (low, high, ne_eqb (m + 1) 0 (λ e. omega arith), back)

pub code-small : (p : Parent) → parent_fits p ≡ true → parent_code p ≤ most_transactions
code-small None f = omega arith
code-small (Some m) f = omega (arith, ltb-true m most_transactions f)

-- the number made of a transaction stands for it
cell-is : (p : Phase) (m : Parent) → parent_fits m ≡ true → transaction_in (cell_of (record { phase = p; parent = m })) ≡ record { phase = p; parent = m }
cell-is p m f = λ i. record { phase = (in-phases (parent_code m) p) i; parent = (parents m f) i }
  where
    in-phases : (k : ℕ) (p : Phase) → phase_in (k * 4 + phase_code p) ≡ p
    in-phases k Idle = let low : (k * 4 + 0) % 4 ≡ 0 = omega arith in rw low
    in-phases k Active = let low : (k * 4 + 1) % 4 ≡ 1 = omega arith in rw low
    in-phases k Committed = let low : (k * 4 + 2) % 4 ≡ 2 = omega arith in rw low
    in-phases k Aborted = let low : (k * 4 + 3) % 4 ≡ 3 = omega arith in rw low

    high : (k : ℕ) → k < 128 → (k * 4 + phase_code p) / 4 % 128 ≡ k
    high k h = let whole : (k * 4 + phase_code p) / 4 ≡ k = omega (arith, code-le p) in ap (λ (n : ℕ). n % 128) whole ∙ small-part k h

    parents : (m : Parent) → parent_fits m ≡ true → parent_in (parent_code m * 4 + phase_code p) ≡ m
    parents None f = rw (high 0 (omega arith))
    parents (Some m) f =
        let back : m + 1 - 1 ≡ m = omega arith in
        rw (high (m + 1) (omega (arith, ltb-true m most_transactions f)), ne_eqb (m + 1) 0 (λ e. omega arith), back)

pub length-in : (l : List ℕ) → length (transactions_in l) ≤ most_transactions
unfolding transactions_in
length-in l = simp length-take (omega arith)

-- a number in another phase stands for the transaction in that phase
in-phase : (p : Phase) (c : ℕ) → transaction_in (with_phase p c) ≡ in_phase p (transaction_in c)
in-phase p c = λ i. record { phase = phase-back p c i; parent = parent-kept p c i }

-- ---- what stands at a place

pub at_low : (l : List ℕ) (t : ℕ) → t < most_transactions → get_or (transactions_in l) t idle ≡ transaction_in (get_or l t 0)
unfolding transactions_in
at_low l t h = take-low most_transactions t (map transaction_in l) idle h ∙ get_or-map transaction_in l t 0

pub phase-low : (l : List ℕ) (t : ℕ) → t < most_transactions → phase_of (transactions_in l) t ≡ phase_in (get_or l t 0)
phase-low l t h = ap (λ (x : Transaction). x.phase) (at_low l t h)

pub parent-low : (l : List ℕ) (t : ℕ) → t < most_transactions → parent_of (transactions_in l) t ≡ parent_in (get_or l t 0)
parent-low l t h = ap (λ (x : Transaction). x.parent) (at_low l t h)

pub parent-past : (l : List ℕ) (t : ℕ) → most_transactions ≤ t → parent_of (transactions_in l) t ≡ None
parent-past l t h = past-free (transactions_in l) t (omega (arith, length-in l))

pub phase-past : (l : List ℕ) (t : ℕ) → most_transactions ≤ t → phase_of (transactions_in l) t ≡ Idle
phase-past l t h = past-idle (transactions_in l) t (omega (arith, length-in l))

-- ---- a store

pub entered-in : (l : List ℕ) (t : ℕ) (p : Phase) → t < most_transactions → transactions_in (set l t (with_phase p (get_or l t 0))) ≡ entered p t (transactions_in l)
unfolding transactions_in entered
entered-in l t p h =
    ap (take most_transactions) (map-set transaction_in l t (with_phase p (get_or l t 0)))
    ∙ take-set most_transactions t (map transaction_in l) (transaction_in (with_phase p (get_or l t 0)))
    ∙ ap (set (take most_transactions (map transaction_in l)) t) (in-phase p (get_or l t 0) ∙ ap (in_phase p) (sym (take-low most_transactions t (map transaction_in l) idle h ∙ get_or-map transaction_in l t 0)))

pub entered-past : (l : List ℕ) (t : ℕ) (p : Phase) → most_transactions ≤ t → transactions_in l ≡ entered p t (transactions_in l)
unfolding entered
entered-past l t p h = sym (set_out (transactions_in l) t (in_phase p (get_or (transactions_in l) t idle)) (omega (arith, length-in l)))

pub spawned-in : (l : List ℕ) (m t : ℕ) → m < most_transactions → t < most_transactions → transactions_in (set l t (under_in m (get_or l t 0))) ≡ spawned_in m t (transactions_in l)
unfolding transactions_in spawned
spawned-in l m t hm ht =
    rw (lt-ltb m most_transactions hm)
    (ap (take most_transactions) (map-set transaction_in l t (under_in m (get_or l t 0)))
    ∙ take-set most_transactions t (map transaction_in l) (transaction_in (under_in m (get_or l t 0)))
    ∙ ap (set (take most_transactions (map transaction_in l)) t) (under-is m (get_or l t 0) hm))

pub spawned-past : (l : List ℕ) (m t : ℕ) → m < most_transactions → most_transactions ≤ t → transactions_in l ≡ spawned_in m t (transactions_in l)
unfolding spawned
spawned-past l m t hm ht =
    rw (lt-ltb m most_transactions hm) (sym (set_out (transactions_in l) t (record { phase = Active; parent = Some m }) (omega (arith, length-in l))))

pub spawned-none : (l : List ℕ) (m t : ℕ) → most_transactions ≤ m → transactions_in l ≡ spawned_in m t (transactions_in l)
spawned-none l m t h = rw (le-ltb m most_transactions h)

pub length-put : (ts : List Transaction) (t : ℕ) (x : Transaction) → length (put_in t x ts) ≡ length ts
length-put ts t x = bool_cases (parent_fits x.parent) (λ f. rw f (length-set ts t x)) (λ f. rw f)

module _ (l : List ℕ) (t : ℕ) (x : Transaction) where
  pub put-in : parent_fits x.parent ≡ true → t < most_transactions → transactions_in (set l t (cell_of x)) ≡ put_in t x (transactions_in l)
  unfolding transactions_in
  put-in f h =
      rw f
      (ap (take most_transactions) (map-set transaction_in l t (cell_of x))
      ∙ take-set most_transactions t (map transaction_in l) (transaction_in (cell_of x))
      ∙ ap (set (take most_transactions (map transaction_in l)) t) (cell-is x.phase x.parent f))

  pub put-past : parent_fits x.parent ≡ true → most_transactions ≤ t → transactions_in l ≡ put_in t x (transactions_in l)
  put-past f h = rw f (sym (set_out (transactions_in l) t x (omega (arith, length-in l))))

  pub put-none : parent_fits x.parent ≡ false → transactions_in l ≡ put_in t x (transactions_in l)
  put-none f = rw f

-- no event yet
pub none-begun : transactions_in (replicate most_transactions 0) ≡ replicate most_transactions idle
unfolding transactions_in
none-begun = refl
