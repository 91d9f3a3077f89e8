-- Facts at a place of the history: what stands before an event is a history, of which the words tell, and in which the event was accepted.
use mathlib.Core.Path.{◌≡◌, refl, sym, ap, subst, subst⁻¹, ◌∙◌}
use mathlib.Core.Bool.{Bool, true, false, ◌||◌}
use Prim.Native.Nat.{ℕ}
use native.Mathlib.Omega.{arith}
use mathlib.Core.Logic.{◌⊎◌, inl, inr, ⊎_elim}
use mathlib.Core.List.{List, [], ◌∷◌, ◌++◌, append_assoc, append-nil}
use Rattle.laws.proofs.Bools.{clash, or_cases}
use Rattle.terms.specs.declared.Event.{Event}
use Rattle.tables.specs.Accepted.{Well}
use Rattle.tables.specs.declared.Tables.{Tables}
use Rattle.histories.specs.Histories.{history}
use Rattle.acta.specs.Told.{IsTold}
use Rattle.acta.specs.Words.{Happens, occurs}
use Rattle.acta.proofs.Runs.{before-it}
use Rattle.acta.proofs.ToldHolds.{is_told}

-- ---- lists

module _ (f : Event → Bool) where
  pub occurs-append : (u v : List Event) → occurs f (u ++ v) ≡ (occurs f u || occurs f v)
  unfolding occurs
  occurs-append [] v = refl
  occurs-append (e ∷ u) v = ap (λ (b : Bool). f e || b) (occurs-append u v) ∙ or_assoc (f e) (occurs f u) (occurs f v)
    where
      or_assoc : (a b c : Bool) → (a || (b || c)) ≡ ((a || b) || c)
      or_assoc true b c = refl
      or_assoc false b c = refl

  pub occurs-where : (v : List Event) → occurs f v ≡ true → (a : List Event) × (e : Event) × (b : List Event) × (v ≡ a ++ (e ∷ b)) × (f e ≡ true)
  unfolding occurs
  occurs-where [] h = clash h refl
  occurs-where (e ∷ v) h =
      ⊎_elim
      (λ x. ([], e, v, refl, x))
      (λ x. let w = occurs-where v x in (e ∷ w.0, w.1, w.2, ap (λ (l : List Event). e ∷ l) w.3, w.4))
      (or_cases (f e) (occurs f v) h)

-- ---- two ways to cut one list

pub none_left : (x : Event) (xs : List Event) → [] ≡ x ∷ xs → ⊥
none_left x xs q = let z : ◌≡◌ {A = ℕ} 0 1 = cc in omega arith

pub heads : (x y : Event) (xs ys : List Event) → x ∷ xs ≡ y ∷ ys → (x ≡ y) × (xs ≡ ys)
heads x y xs ys q = (cc, cc)

-- the first cut comes no later than the second, or no earlier
abbrev pub Cuts : List Event → List Event → List Event → List Event → Type 0
Cuts a b c d = ((m : List Event) × (c ≡ a ++ m) × (b ≡ m ++ d)) ⊎ ((m : List Event) × (a ≡ c ++ m) × (d ≡ m ++ b))

pub cuts : (a b c d : List Event) → a ++ b ≡ c ++ d → Cuts a b c d
cuts [] b c d q = inl (c, refl, q)
cuts (x ∷ a) b [] d q = inr (x ∷ a, refl, sym q)
cuts (x ∷ a) b (y ∷ c) d q =
    let h = heads x y (a ++ b) (c ++ d) q in
    ⊎_elim
    (λ w. inl (w.0, ap (λ (l : List Event). y ∷ l) w.1 ∙ ap (λ (z : Event). z ∷ (a ++ w.0)) (sym h.0), w.2))
    (λ w. inr (w.0, ap (λ (l : List Event). x ∷ l) w.1 ∙ ap (λ (z : Event). z ∷ (c ++ w.0)) h.0, w.2))
    (cuts a b c d h.1)

-- the event comes later in a longer beginning
pub further : (h u v : List Event) → h ≡ u ++ v → (a : List Event) (e : Event) (b : List Event) → v ≡ a ++ (e ∷ b) → Happens h (u ++ a) e
further h u v q a e b r = (b, q ∙ ap (λ (l : List Event). u ++ l) r ∙ sym (append_assoc u a (e ∷ b)))

-- what every event of h carries on holds at its end
pub along : (h : List Event) (P : List Event → Type 0) → ((u : List Event) (e : Event) → Happens h u e → P u → P (u ++ (e ∷ []))) → (v u : List Event) → h ≡ u ++ v → P u → P h
along h P go [] u q p = subst⁻¹ P (q ∙ append-nil u) p
along h P go (e ∷ v) u q p = along h P go v (u ++ (e ∷ [])) (q ∙ sym (append_assoc u (e ∷ []) v)) (go u e (v, q) p)

-- ---- what is told at a place

pub told_at : (tables : Tables) → Well tables → (es u : List Event) (e : Event) → Happens (history tables es) u e → IsTold tables u u
told_at tables well es u e at = subst (IsTold tables u) (before-it tables es u e at) (is_told tables u well)
