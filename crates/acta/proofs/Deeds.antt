-- What a list of events tells of operations and of children, event by event.
use Prim.Native.Nat.{ℕ, ◌<◌, ◌≤◌}
use native.Mathlib.Omega.{arith}
use mathlib.Core.Path.{◌≡◌, refl, sym, ap, ◌∙◌}
use mathlib.Core.Bool.{Bool, true, false}
use mathlib.Core.List.{List, [], ◌∷◌, ◌++◌}
use borrow.Author.Tests.{eq-eqb, ne_eqb}
use Rattle.laws.proofs.Bools.{bool_cases, off-or}
use Rattle.laws.proofs.Decisions.{same_or}
use Rattle.terms.specs.declared.Event.{Event}
use Rattle.terms.specs.declared.Event.TheVariants.{Abort, AbortOne, Begin, Commit, CommitOne, Delegate, Operation as Invoke, Spawn}
use Rattle.terms.specs.declared.Mark.{Mark}
use Rattle.ties.specs.Operations.{is_active}
use Rattle.ties.specs.declared.Fate.{Fate}
use Rattle.ties.specs.declared.Fate.TheVariants.{Aborted as FateAborted, Committed as FateCommitted}
use Rattle.rules.specs.States.{Parent}
use Rattle.std.specs.Prelude.{None, Some}
use Rattle.rules.specs.declared.Phase.TheVariants.{Committed}
use Rattle.histories.specs.Histories.{Account, Deed, account_of, kept, moved, no_account, of_the, only, recounted, retell, to_fate, to_receiver, told}
use Rattle.acta.specs.Words.{Happens, begins, invoked, occurs}

pub account-append : (u v : List Event) (a : Account) → account_of (u ++ v) a ≡ account_of v (account_of u a)
unfolding account_of
account-append [] v a = refl
account-append (e ∷ u) v a = account-append u v (recounted e a)

pub nothing-told : told [] ≡ no_account
unfolding account_of
nothing-told = refl

-- one event more
pub told_more : (u : List Event) (e : Event) → told (u ++ (e ∷ [])) ≡ recounted e (told u)
unfolding account_of
told_more u e = account-append u (e ∷ []) no_account

-- ---- how many there are, whose children they are

module _ (t : ℕ) (a : Account) where
  kept-made : (p : Parent) → (kept t p a).made ≡ a.made
  kept-made None = refl
  kept-made (Some m) = refl

  kept-parent : (p : Parent) (c : ℕ) → (kept t p a).parent c ≡ a.parent c
  kept-parent None c = refl
  kept-parent (Some m) c = refl

pub made_up : (e : Event) (a : Account) → a.made ≤ (recounted e a).made
made_up (Begin t) a = omega arith
made_up (Commit t) a = omega (arith, kept-made t (moved Committed t a) (a.parent t))
made_up (Abort t) a = omega arith
made_up (Invoke t o m) a = omega arith
made_up (Delegate t r q) a = omega arith
made_up (CommitOne t q) a = omega arith
made_up (AbortOne t q) a = omega arith
made_up (Spawn m c) a = omega arith

pub made-on : (es : List Event) (a : Account) → a.made ≤ (account_of es a).made
unfolding account_of
made-on [] a = omega arith
made-on (e ∷ es) a = omega (arith, made_up e a, made-on es (recounted e a))

-- whom no event begins, none adopts
module _ (c : ℕ) where
  unadopted : (e : Event) (a : Account) → begins c e ≡ false → (recounted e a).parent c ≡ a.parent c
  unadopted (Begin t) a h = refl
  unadopted (Commit t) a h = kept-parent t (moved Committed t a) (a.parent t) c
  unadopted (Abort t) a h = refl
  unadopted (Invoke t o m) a h = refl
  unadopted (Delegate t r q) a h = refl
  unadopted (CommitOne t q) a h = refl
  unadopted (AbortOne t q) a h = refl
  unadopted (Spawn m t) a h = same_or c t (λ e. absurd (no_way (eq-eqb t c (sym e)) h)) (λ n. rw (ne_eqb c t n))
    where
      no_way : {b : Bool} → b ≡ true → b ≡ false → ⊥
      no_way e f = let z : ◌≡◌ {A = ℕ} 0 1 = cc in omega arith

  pub nobodys-child : (es : List Event) (a : Account) → occurs (begins c) es ≡ false → (account_of es a).parent c ≡ a.parent c
  unfolding account_of occurs
  nobodys-child [] a h = refl
  nobodys-child (e ∷ es) a h = let o = off-or (begins c e) (occurs (begins c) es) h in nobodys-child es (recounted e a) o.1 ∙ unadopted e a o.0

-- ---- what stays of an operation: its object and its mark

module _ {A : Type 0} (f : Deed → A) (given : (r : ℕ) (d : Deed) → f (to_receiver r d) ≡ f d) (ends : (x : Fate) (d : Deed) → f (to_fate x d) ≡ f d) (q : ℕ) where
  retold : (meant : ℕ → Deed → Bool) (how : Deed → Deed) (a : Account) → ((d : Deed) → f (how d) ≡ f d) → f ((retell meant how a).deed q) ≡ f (a.deed q)
  retold meant how a h =
      bool_cases (meant q (a.deed q))
      (λ x. bool_cases (is_active (a.deed q).fate) (λ y. rw (x, y) (h (a.deed q))) (λ y. rw (x, y)))
      (λ x. rw x)

  kept_same : (t : ℕ) (p : Parent) (a : Account) → f ((kept t p a).deed q) ≡ f (a.deed q)
  kept_same t None a = retold (of_the t) (to_fate FateCommitted) a (ends FateCommitted)
  kept_same t (Some m) a = retold (of_the t) (to_receiver m) a (given m)

  same : (e : Event) (a : Account) → q < a.made → f ((recounted e a).deed q) ≡ f (a.deed q)
  same (Begin t) a l = refl
  same (Commit t) a l = kept_same t (a.parent t) (moved Committed t a)
  same (Abort t) a l = retold (of_the t) (to_fate FateAborted) a (ends FateAborted)
  same (Invoke t o m) a l = rw (ne_eqb q a.made (λ e. absurd (omega arith)))
  same (Delegate t r p) a l = retold (only p) (to_receiver r) a (given r)
  same (CommitOne t p) a l = retold (only p) (to_fate FateCommitted) a (ends FateCommitted)
  same (AbortOne t p) a l = retold (only p) (to_fate FateAborted) a (ends FateAborted)
  same (Spawn m c) a l = refl

  pub same-on : (es : List Event) (a : Account) → q < a.made → f ((account_of es a).deed q) ≡ f (a.deed q)
  unfolding account_of
  same-on [] a l = refl
  same-on (e ∷ es) a l = same-on es (recounted e a) (omega (arith, l, made_up e a)) ∙ same e a l

-- ---- the event by which an operation came

pub record Came (h : List Event) (q : ℕ) : Type 0 where
  pub t : ℕ
  pub o : ℕ
  pub m : Mark
  pub u : List Event
  pub came : Happens h u (Invoke t o m)
  pub number : invoked u ≡ q

module _ (q : ℕ) where
  record CameFrom (h : List Event) (a : Account) : Type 0 where
    t : ℕ
    o : ℕ
    m : Mark
    u : List Event
    v : List Event
    came : h ≡ u ++ (Invoke t o m ∷ v)
    number : (account_of u a).made ≡ q

  later : (e : Event) (h : List Event) (a : Account) → CameFrom h (recounted e a) → CameFrom (e ∷ h) a
  unfolding account_of
  later e h a w = record { t = w.t; o = w.o; m = w.m; u = e ∷ w.u; v = w.v; came = ap (λ (l : List Event). e ∷ l) w.came; number = w.number }

  found : (h : List Event) (a : Account) → a.made ≤ q → q < (account_of h a).made → CameFrom h a
  unfolding account_of
  found [] a l b = absurd (omega arith)
  found (Begin t ∷ h) a l b = later (Begin t) h a (found h (recounted (Begin t) a) l b)
  found (Commit t ∷ h) a l b =
      later (Commit t) h a (found h (recounted (Commit t) a) (omega (arith, kept-made t (moved Committed t a) (a.parent t))) b)
  found (Abort t ∷ h) a l b = later (Abort t) h a (found h (recounted (Abort t) a) l b)
  found (Invoke t o m ∷ h) a l b =
      same_or a.made q
      (λ e. record { t = t; o = o; m = m; u = []; v = h; came = refl; number = e })
      (λ n. later (Invoke t o m) h a (found h (recounted (Invoke t o m) a) (omega (arith, n)) b))
  found (Delegate t r p ∷ h) a l b = later (Delegate t r p) h a (found h (recounted (Delegate t r p) a) l b)
  found (CommitOne t p ∷ h) a l b = later (CommitOne t p) h a (found h (recounted (CommitOne t p) a) l b)
  found (AbortOne t p ∷ h) a l b = later (AbortOne t p) h a (found h (recounted (AbortOne t p) a) l b)
  found (Spawn m c ∷ h) a l b = later (Spawn m c) h a (found h (recounted (Spawn m c) a) l b)

  pub came-by : (h : List Event) → q < invoked h → Came h q
  came-by h l = let w = found h no_account (omega arith) l in record { t = w.t; o = w.o; m = w.m; u = w.u; came = (w.v, w.came); number = w.number }
