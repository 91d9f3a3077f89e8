-- Many events one after the other: "Take events in any order and drop the refused ones."
use Rattle.std.specs.Prelude.{ℕ, suc, Bool, true, false, cond, List, [], ◌∷◌, eqb, ltb, None, Some}
use Rattle.terms.specs.declared.Verdict.{Verdict}
use Rattle.terms.specs.declared.Verdict.TheVariants.{Accepted, Refused}
use Rattle.terms.specs.declared.Mark.{Mark}
use Rattle.terms.specs.declared.Mark.TheVariants.{Read}
use Rattle.ties.specs.Operations.{is_active, size}
use Rattle.ties.specs.declared.Fate.{Fate}
use Rattle.ties.specs.declared.Fate.TheVariants.{Aborted as FateAborted, Active as FateActive, Committed as FateCommitted}
use Rattle.tables.specs.declared.Tables.{Tables}
use Rattle.rules.specs.States.{Parent}
use Rattle.rules.specs.declared.Phase.{Phase}
use Rattle.rules.specs.declared.Phase.TheVariants.{Aborted, Active, Committed, Idle}
use Rattle.rules.specs.declared.State.{State}
use Rattle.terms.specs.declared.Event.{Event}
use Rattle.terms.specs.declared.Event.TheVariants.{Begin, Commit, Abort, Operation as Invoke, Delegate, CommitOne, AbortOne, Spawn}
use Rattle.rules.specs.States.{empty_state}
use Rattle.judge.specs.Judge.{judged}

abbrev pub is_accepted : Verdict → Bool
is_accepted Accepted = true
is_accepted (Refused r) = false

-- the state after one event, and after many
abbrev pub next : Tables → State → Event → State
next tables s e = (judged tables s e).state

unfoldable pub run : Tables → State → List Event → State
run tables s [] = s
run tables s (e ∷ es) = run tables (next tables s e) es

-- the accepted ones among them
unfoldable pub taken : Tables → State → List Event → List Event
taken tables s [] = []
taken tables s (e ∷ es) = cond (is_accepted (judged tables s e).verdict) (e ∷ taken tables (next tables s e) es) (taken tables (next tables s e) es)

-- from the beginning
abbrev pub reached : Tables → List Event → State
reached tables es = run tables empty_state es

abbrev pub history : Tables → List Event → List Event
history tables es = taken tables empty_state es

-- ---- what a history says of every transaction and of every operation

-- of an operation: its object, its mark, whose it is and its fate
pub record Deed : Type 0 where
  pub object : ℕ
  pub mark : Mark
  pub whose : ℕ
  pub fate : Fate

-- an account: the phase of each transaction and whose child it is, how many operations were made, and each of them
pub record Account : Type 0 where
  pub phase : ℕ → Phase
  pub parent : ℕ → Parent
  pub made : ℕ
  pub deed : ℕ → Deed

abbrev pub no_account : Account
no_account = record { phase = λ t. Idle; parent = λ t. None; made = 0; deed = λ q. record { object = 0; mark = Read; whose = 0; fate = FateActive } }

-- t is in another phase from now on
abbrev pub moved : Phase → ℕ → Account → Account
moved p t a = record { phase = λ u. cond (eqb u t) p (a.phase u); parent = a.parent; made = a.made; deed = a.deed }

-- t is m's child from now on
abbrev pub adopted : ℕ → ℕ → Account → Account
adopted m t a = record { phase = a.phase; parent = λ u. cond (eqb u t) (Some m) (a.parent u); made = a.made; deed = a.deed }

-- the next operation is t's
abbrev pub invoked : ℕ → ℕ → Mark → Account → Account
invoked t o m a =
    record {
      phase = a.phase;
      parent = a.parent;
      made = suc a.made;
      deed = λ q. cond (eqb q a.made) (record { object = o; mark = m; whose = t; fate = FateActive }) (a.deed q);
    }

-- those that are meant change, unless they have ended
abbrev pub retell : (ℕ → Deed → Bool) → (Deed → Deed) → Account → Account
retell meant how a =
    record { phase = a.phase; parent = a.parent; made = a.made; deed = λ q. cond (meant q (a.deed q)) (cond (is_active (a.deed q).fate) (how (a.deed q)) (a.deed q)) (a.deed q) }

-- those of t, and operation p
abbrev pub of_the : ℕ → ℕ → Deed → Bool
of_the t q d = eqb d.whose t

abbrev pub only : ℕ → ℕ → Deed → Bool
only p q d = eqb q p

abbrev pub to_receiver : ℕ → Deed → Deed
to_receiver r d = record { object = d.object; mark = d.mark; whose = r; fate = d.fate }

abbrev pub to_fate : Fate → Deed → Deed
to_fate fate d = record { object = d.object; mark = d.mark; whose = d.whose; fate = fate }

-- "Its commit hands its active operations to the parent instead of ending them"
abbrev pub kept : ℕ → Parent → Account → Account
kept t None a = retell (of_the t) (to_fate FateCommitted) a
kept t (Some m) a = retell (of_the t) (to_receiver m) a

abbrev pub recounted : Event → Account → Account
recounted (Begin t) a = moved Active t a
recounted (Commit t) a = kept t (a.parent t) (moved Committed t a)
recounted (Abort t) a = retell (of_the t) (to_fate FateAborted) (moved Aborted t a)
recounted (Invoke t o m) a = invoked t o m a
recounted (Delegate t r p) a = retell (only p) (to_receiver r) a
recounted (CommitOne t p) a = retell (only p) (to_fate FateCommitted) a
recounted (AbortOne t p) a = retell (only p) (to_fate FateAborted) a
recounted (Spawn m c) a = adopted m c (moved Active c a)

unfoldable pub account_of : List Event → Account → Account
account_of [] a = a
account_of (e ∷ es) a = account_of es (recounted e a)

abbrev pub told : List Event → Account
told es = account_of es no_account

-- "An operation's responsible transaction is its invoker until it is delegated, then the last receiver."
abbrev pub responsible_in : List Event → ℕ → ℕ
responsible_in es q = ((told es).deed q).whose

-- the state in which operation q was accepted: the last before there are more than q
unfoldable pub when_made : Tables → State → List Event → ℕ → State
when_made tables s [] q = s
when_made tables s (e ∷ es) q = cond (ltb q (size (next tables s e).ops)) s (when_made tables (next tables s e) es q)
