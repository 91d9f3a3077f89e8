-- Declared dependencies (000, 10.2.2; 002, 6.6 and 003, 2.1.1 for the commit and abort dependencies). h is a history.
use Rattle.std.specs.Prelude.{ℕ, ◌<◌, ◌≡◌, Bool, true, false, not, List}
use Rattle.terms.specs.declared.Event.{Event}
use Rattle.terms.specs.declared.Event.TheVariants.{Commit as Commits}
use Rattle.tables.specs.Counts.{dependency_count}
use Rattle.tables.specs.Dependencies.{dependency_at}
use Rattle.tables.specs.declared.Kind.{Kind}
use Rattle.tables.specs.declared.Kind.TheVariants.{Abort, Begin, BeginOnAbort, BeginOnCommit, Commit, Serial, WeakAbort}
use Rattle.tables.specs.declared.Tables.{Tables}
use Rattle.acta.specs.Words.{Follows, Happens, aborted, began, begins, committed, ended}

-- d depends on b in this way
abbrev pub Declared : Tables → ℕ → ℕ → Kind → Type 0
Declared tables d b k = (i : ℕ) × (i < dependency_count tables) × (dependency_at tables i ≡ record { dependent = d; base = b; kind = k })

-- after h, a dependent of b may commit
abbrev pub lets_commit : Kind → List Event → ℕ → Bool
-- CD: b has committed or aborted
lets_commit Commit h b = ended h b
-- AD: b has committed
lets_commit Abort h b = committed h b
-- WD: b has not aborted
lets_commit WeakAbort h b = not (aborted h b)
lets_commit Begin h b = true
lets_commit Serial h b = true
lets_commit BeginOnCommit h b = true
lets_commit BeginOnAbort h b = true

-- after h, a dependent of b may begin
abbrev pub lets_begin : Kind → List Event → ℕ → Bool
lets_begin Commit h b = true
lets_begin Abort h b = true
lets_begin WeakAbort h b = true
-- BD: b has begun
lets_begin Begin h b = began h b
-- SD: b has committed or aborted
lets_begin Serial h b = ended h b
-- BCD: b has committed
lets_begin BeginOnCommit h b = committed h b
-- BAD: b has aborted
lets_begin BeginOnAbort h b = aborted h b

-- ★6, for the declared ones
pub record Depending (tables : Tables) (h : List Event) : Type 0 where
  -- CD and AD are those of 002 and 003, "cannot commit until": stronger than the formulas of 000, which say nothing of a b that has not ended
  pub commits : (u : List Event) (d b : ℕ) (k : Kind) → Declared tables d b k → Happens h u (Commits d) → lets_commit k u b ≡ true
  -- a spawn is judged as the child's begin
  pub begins_when : (u : List Event) (e : Event) (d b : ℕ) (k : Kind) → Declared tables d b k → Happens h u e → begins d e ≡ true → lets_begin k u b ≡ true

-- d depends on b by AD, in one step or more
abbrev pub LeadsByAbort : Tables → ℕ → ℕ → Type 0
LeadsByAbort tables = Follows (λ d b. Declared tables d b Abort)

-- a dependency that keeps the dependent from its begin: BD, SD, BCD and BAD
abbrev pub keeps_from_begin : Kind → Bool
keeps_from_begin Commit = false
keeps_from_begin Abort = false
keeps_from_begin WeakAbort = false
keeps_from_begin Begin = true
keeps_from_begin Serial = true
keeps_from_begin BeginOnCommit = true
keeps_from_begin BeginOnAbort = true

-- d depends on b by those, in one step or more
abbrev pub LeadsByBegin : Tables → ℕ → ℕ → Type 0
LeadsByBegin tables = Follows (λ d b. (k : Kind) × Declared tables d b k × (keeps_from_begin k ≡ true))

-- 003, 2.1.1: AD is transitive
pub record Transitive (tables : Tables) (h : List Event) : Type 0 where
  pub commits : (u : List Event) (d b : ℕ) → LeadsByAbort tables d b → Happens h u (Commits d) → committed u b ≡ true
  -- of a circle nobody ever commits: 003 has them commit together or not at all
  pub circles : (d : ℕ) → LeadsByAbort tables d d → committed h d ≡ false
  -- 002, section 5: whoever begins, begins behind the begins of all that it leads to by BD, SD, BCD and BAD, and of a circle nobody ever begins
  pub begins_behind : (u : List Event) (e : Event) (d b : ℕ) → LeadsByBegin tables d b → Happens h u e → begins d e ≡ true → began u b ≡ true
  pub begin_circles : (d : ℕ) → LeadsByBegin tables d d → began h d ≡ false
