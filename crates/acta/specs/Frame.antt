-- An event is its invoker's (000, 10.2.1): what it leaves as it was. h is a history; phases change with the one that begins or ends alone, by the words themselves.
use Rattle.std.specs.Prelude.{ℕ, ◌<◌, ◌≡◌, true, false, ◌↔◌, ◌⊎◌, List, [], ◌∷◌, ◌++◌}
use Rattle.terms.specs.declared.Event.{Event}
use Rattle.acta.specs.Words.{Happens, Tied, acts, begins, fate, invoked, mark, object, parent, responsible, runs}

pub record LeavesOthers (h : List Event) : Type 0 where
  -- what an operation is never changes
  pub what : (u : List Event) (e : Event) → Happens h u e → (q : ℕ) → q < invoked u → (object (u ++ (e ∷ [])) q ≡ object u q) × (mark (u ++ (e ∷ [])) q ≡ mark u q)
  -- whose it is and how it stands changes only while it runs, and only by an event in which the one responsible for it has a part
  pub whose : (u : List Event) (e : Event) → Happens h u e → (q : ℕ) → q < invoked u
      → ((fate (u ++ (e ∷ [])) q ≡ fate u q) × (responsible (u ++ (e ∷ [])) q ≡ responsible u q)) ⊎ ((runs u q ≡ true) × (acts (responsible u q) e ≡ true))
  -- ties between operations that are there already neither come nor go
  pub ties : (u : List Event) (e : Event) → Happens h u e → (p q : ℕ) → q < invoked u → Tied (u ++ (e ∷ [])) p q ↔ Tied u p q
  -- and nobody becomes another's child but by its begin
  pub families : (u : List Event) (e : Event) → Happens h u e → (c : ℕ) → begins c e ≡ false → parent (u ++ (e ∷ [])) c ≡ parent u c
