-- Demand 3, for the saga of index i: n steps, first number f.
use Rattle.std.specs.Prelude.{ℕ, zero, suc, ◌+◌, ◌*◌, ◌≤◌, ◌<◌, ◌≡◌, ◌≢◌, ◌↔◌, ◌⊎◌, Bool, true, cond, not, ◌&&◌, List, [], ◌∷◌, ◌++◌, ltb, leb, Ok}
use Rattle.std.proofs.Math.Option.{some}
use Rattle.terms.specs.declared.Verdict.TheVariants.{Accepted}
use Rattle.number.specs.declared.Edition.{Edition}
use Rattle.tables.specs.Accepted.{Well}
use Rattle.tables.specs.Sorts.{first_of, steps_of}
use Rattle.tables.specs.Reading.{tables_by}
use Rattle.tables.specs.declared.Circles.{Circles}
use Rattle.tables.specs.declared.Tables.{Tables}
use Rattle.rules.specs.declared.Phase.TheVariants.{Idle}
use Rattle.terms.specs.declared.Event.{Event}
use Rattle.terms.specs.declared.Event.TheVariants.{Begin, Commit, Abort, Operation as Invoke, Delegate, CommitOne, AbortOne, Spawn}
use Rattle.rules.specs.declared.State.{State}
use Rattle.judge.specs.Judge.{judged}
use Rattle.histories.specs.Histories.{run, reached, history}
use Rattle.closing.specs.declared.NextStep.TheVariants.{NoStep}
use Rattle.closing.specs.Closing.{event_of, own_of, outstanding, closing, settled}

-- ---- the two runs of commits, as transaction numbers

-- T1 to T(j)
unfoldable pub ups : ℕ → ℕ → List ℕ
ups f zero = []
ups f (suc j) = ups f j ++ ((f + suc j) ∷ [])

-- C(j) to C1
unfoldable pub downs : ℕ → ℕ → ℕ → List ℕ
downs f n zero = []
downs f n (suc j) = (f + (n + suc j)) ∷ downs f n j

-- T1..Tn, S
unfoldable pub whole_run : ℕ → ℕ → List ℕ
whole_run f n = ups f n ++ (f ∷ [])

-- T1..Tj, Cj..C1
unfoldable pub back_run : ℕ → ℕ → ℕ → List ℕ
back_run f n j = ups f j ++ downs f n j

abbrev pub Beginning : List ℕ → List ℕ → Type 0
Beginning xs ys = (rest : List ℕ) × (xs ++ rest ≡ ys)

-- t is one of f to f + 2n - 1
abbrev pub mine : ℕ → ℕ → ℕ → Bool
mine f n t = leb f t && ltb t (f + 2 * n)

-- the commits among these events of the saga's own transactions, in order
unfoldable pub commits_of : ℕ → ℕ → List Event → List ℕ
commits_of f n [] = []
commits_of f n (Begin t ∷ es) = commits_of f n es
commits_of f n (Commit t ∷ es) = cond (mine f n t) (t ∷ commits_of f n es) (commits_of f n es)
commits_of f n (Abort t ∷ es) = commits_of f n es
commits_of f n (Invoke t o m ∷ es) = commits_of f n es
commits_of f n (Delegate t r q ∷ es) = commits_of f n es
commits_of f n (CommitOne t q ∷ es) = commits_of f n es
commits_of f n (AbortOne t q ∷ es) = commits_of f n es
commits_of f n (Spawn m c ∷ es) = commits_of f n es

-- ---- others' events: any but a begin, commit or abort of the saga or its own steps and undos

abbrev pub foreign : ℕ → ℕ → Event → Bool
foreign f n (Begin t) = not (mine f n t)
foreign f n (Commit t) = not (mine f n t)
foreign f n (Abort t) = not (mine f n t)
foreign f n (Invoke t o m) = true
foreign f n (Delegate t r q) = true
foreign f n (CommitOne t q) = true
foreign f n (AbortOne t q) = true
-- a spawn begins the child
foreign f n (Spawn m c) = not (mine f n c)

unfoldable pub all_foreign : ℕ → ℕ → List Event → Bool
all_foreign f n [] = true
all_foreign f n (e ∷ es) = foreign f n e && all_foreign f n es

-- ---- the demand

-- a closing step that is named now, is named, accepted and lowers the number by one also after others' events
pub record Closes (tables : Tables) (i : ℕ) (now later : State) : Type 0 where
  -- the event of the closing step
  pub event : Event
  pub named : event_of (closing tables now i) ≡ some event
  -- others' events leave it as it was
  pub named_later : event_of (closing tables later i) ≡ some event
  pub same_number : outstanding tables later i ≡ outstanding tables now i
  -- it is accepted
  pub accepted : (judged tables later event).verdict ≡ Accepted
  -- and lowers the number by one
  pub lowers : outstanding tables (judged tables later event).state i + 1 ≡ outstanding tables now i

pub record Demand (tables : Tables) (i : ℕ) : Type 0 where
  -- "Take events in any order and drop the refused ones: a saga's commits are the beginning of T1..Tn, S or of T1..Tj, Cj..C1." Here j is below n.
  pub order : (es : List Event) →
      Beginning (commits_of (first_of tables i) (steps_of tables i) (history tables es)) (whole_run (first_of tables i) (steps_of tables i))
      ⊎ ((j : ℕ)
      × (j < steps_of tables i)
      × Beginning (commits_of (first_of tables i) (steps_of tables i) (history tables es)) (back_run (first_of tables i) (steps_of tables i) j))
  -- "For a begun saga a number at most 2n": it is at most 2n for every saga
  pub bounded : (es : List Event) → outstanding tables (reached tables es) i ≤ 2 * steps_of tables i
  -- "0 exactly when settled"
  pub zero : (es : List Event) → own_of tables (reached tables es) i 0 ≢ Idle →
      (outstanding tables (reached tables es) i ≡ 0) ↔ (settled tables (reached tables es) i ≡ true)
  -- at 0 there is no closing step
  pub none_at_zero : (es : List Event) → outstanding tables (reached tables es) i ≡ 0 → closing tables (reached tables es) i ≡ NoStep
  -- "above 0 a closing step that is accepted, also after others' events, and lowers the number by one"
  pub closes : (es others : List Event) → all_foreign (first_of tables i) (steps_of tables i) others ≡ true
      → 0 < outstanding tables (reached tables es) i
      → Closes tables i (reached tables es) (run tables (reached tables es) others)

-- for all well-formed tables and every saga in them
abbrev pub Demand3 : Type 0
Demand3 = (tables : Tables) → Well tables → (i : ℕ) → i < tables.sagas → Demand tables i

-- so for all tables that reading accepts, circles permitted or not
abbrev pub Demand3Read : Type 0
Demand3Read = (circles : Circles) (ed : Edition) (s : List ℕ) (at : ℕ) → (tables_by circles ed s).answer ≡ Ok at
    → (i : ℕ) → i < (tables_by circles ed s).tables.sagas → Demand (tables_by circles ed s).tables i
