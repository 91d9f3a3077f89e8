-- What a plan is refused by, judged over the whole plan, line by line.
use Rattle.std.specs.Prelude.{ℕ, Bool, Result, Ok, Err, List, [], ◌∷◌, length, get_or, ltb, leb}
use Rattle.laws.specs.Index.{any_below}
use Rattle.laws.specs.Lines.{Line, line, first_line}
use Rattle.plan.specs.declared.PlanRefusal.{PlanRefusal}
use Rattle.plan.specs.declared.PlanRefusal.TheVariants.{TooManySteps, TooManyLists, LongName, NoSuchMove}
use Rattle.plan.specs.Names.{name_at}

-- steps of a move
abbrev pub most_steps : ℕ
most_steps = 16

-- class lists of a plan
abbrev pub most_lists : ℕ
most_lists = 30

-- bytes of a name
abbrev pub most_name : ℕ
most_name = 24

abbrev pub refusal_number : PlanRefusal → ℕ
refusal_number TooManySteps = 25
refusal_number TooManyLists = 26
refusal_number LongName = 27
refusal_number NoSuchMove = 28

-- what judging a plan answers: that it fits, or why not
abbrev pub PlanVerdict : Type 0
PlanVerdict = Result (Unit {0}) PlanRefusal

-- a verdict as a number: 0 for a plan that fits
abbrev pub plan_number : PlanVerdict → ℕ
plan_number (Ok fits) = 0
plan_number (Err r) = refusal_number r

-- 25: some move has more than 16 steps
abbrev pub too_many_steps : List ℕ → Bool
too_many_steps steps = any_below (length steps) (λ i. ltb most_steps (get_or steps i 0))

-- 26: more than 30 lists
abbrev pub too_many_lists : List ℕ → Bool
too_many_lists lists = ltb most_lists (length lists)

-- 27: some name that `ends` tells of has more than 24 bytes
abbrev pub long_name : List ℕ → List ℕ → Bool
long_name names ends = any_below (length ends) (λ k. ltb most_name (length (name_at names ends k)))

-- 28: some list's move is not there
abbrev pub no_such_move : List ℕ → List ℕ → Bool
no_such_move steps lists = any_below (length lists) (λ j. leb (length steps) (get_or lists j 0))

abbrev pub plan_lines : List ℕ → List ℕ → List ℕ → List ℕ → List (Line PlanRefusal)
plan_lines names ends steps lists =
    line TooManySteps (too_many_steps steps)
    ∷ line TooManyLists (too_many_lists lists)
    ∷ line LongName (long_name names ends)
    ∷ line NoSuchMove (no_such_move steps lists)
    ∷ []

-- the first line that holds
unfoldable pub plan_verdict : List ℕ → List ℕ → List ℕ → List ℕ → PlanVerdict
plan_verdict names ends steps lists = first_line Err (Ok tt) (plan_lines names ends steps lists)
