-- What waits for itself never happens (002, section 5, of deadlocks that the declarations make; 000, 10.2.2): declared dependencies, begins before ends, and the saga's structure, all mixed. h is a history.
use Rattle.std.specs.Prelude.{ℕ, ◌+◌, ◌-◌, ◌<◌, ◌≡◌, Bool, true, false, List}
use Rattle.terms.specs.declared.Event.{Event}
use Rattle.tables.specs.Sorts.{sort_of}
use Rattle.tables.specs.declared.Kind.{Kind}
use Rattle.tables.specs.declared.Kind.TheVariants.{Abort, BeginOnAbort, BeginOnCommit}
use Rattle.tables.specs.declared.Sort.TheVariants.{Saga, Step, Undo}
use Rattle.tables.specs.declared.Tables.{Tables}
use Rattle.acta.specs.Depending.{Declared, keeps_from_begin}
use Rattle.acta.specs.Words.{Happens, aborts, begins, commits, occurs}

-- what a transaction does: it begins, commits or aborts
pub data Turn : Type 0 where
  begin : ℕ → Turn
  commit : ℕ → Turn
  abort : ℕ → Turn

abbrev pub is_turn : Turn → Event → Bool
is_turn (begin t) e = begins t e
is_turn (commit t) e = commits t e
is_turn (abort t) e = aborts t e

-- the one waits for the other
pub data Awaits (tables : Tables) : Turn → Turn → Type 0 where
  -- BD, SD, BCD and BAD: for the base's begin; BCD for its commit, BAD for its abort; AD: the commit for the base's
  to_begin : {d b : ℕ} {k : Kind} → Declared tables d b k → keeps_from_begin k ≡ true → Awaits tables (begin d) (begin b)
  on_commit : {d b : ℕ} → Declared tables d b BeginOnCommit → Awaits tables (begin d) (commit b)
  on_abort : {d b : ℕ} → Declared tables d b BeginOnAbort → Awaits tables (begin d) (abort b)
  to_commit : {d b : ℕ} → Declared tables d b Abort → Awaits tables (commit d) (commit b)
  -- fundamental II: an end for the begin
  committer : {t : ℕ} → Awaits tables (commit t) (begin t)
  aborter : {t : ℕ} → Awaits tables (abort t) (begin t)
  -- saga 18 to 21: a step for S and for the step before it, S for its last step, an undo for the abort of S and for its step
  step_saga : {t f n i : ℕ} → sort_of tables t ≡ Step f n i → Awaits tables (begin t) (begin f)
  step_step : {t f n i : ℕ} → sort_of tables t ≡ Step f n i → 1 < i → Awaits tables (begin t) (commit (f + (i - 1)))
  saga_last : {f n : ℕ} → sort_of tables f ≡ Saga f n → Awaits tables (commit f) (commit (f + n))
  undo_saga : {t f n i : ℕ} → sort_of tables t ≡ Undo f n i → Awaits tables (begin t) (abort f)
  undo_step : {t f n i : ℕ} → sort_of tables t ≡ Undo f n i → Awaits tables (begin t) (commit (f + i))

-- followed in one step or more
pub data WaitsFor (tables : Tables) : Turn → Turn → Type 0 where
  directly : {x y : Turn} → Awaits tables x y → WaitsFor tables x y
  by_way_of : {x y z : Turn} → Awaits tables x y → WaitsFor tables y z → WaitsFor tables x z

pub record InTurn (tables : Tables) (h : List Event) : Type 0 where
  -- whatever happens, happens behind all that it waits for
  pub behind : (u : List Event) (e : Event) (x y : Turn) → WaitsFor tables x y → Happens h u e → is_turn x e ≡ true → occurs (is_turn y) u ≡ true
  -- so what waits for itself never happens
  pub never : (x : Turn) → WaitsFor tables x x → occurs (is_turn x) h ≡ false
