-- Who is known to be on a ring as things stand. A refused event changes nothing, so that what its commit was refused for holds for the next one too.
use Rattle.std.specs.Prelude.{ℕ, ◌≡◌, true}
use Rattle.terms.specs.declared.Event.{Event}
use Rattle.terms.specs.declared.Event.TheVariants.{Begin, Commit, Abort, Operation as Invoke, Delegate, CommitOne, AbortOne, Spawn}
use Rattle.sets.specs.Sets.{mem, inserted}
use Rattle.ties.specs.Ties.{on_ring}
use Rattle.ties.specs.declared.Ops.{Ops}

-- all of these are
abbrev pub Ringed : Ops → ℕ → Type 0
Ringed ops set = (t : ℕ) → mem set t ≡ true → on_ring ops t ≡ true

-- with the transaction too that an event would commit, or an operation of
abbrev pub with_committer : Event → ℕ → ℕ
with_committer (Begin t) set = set
with_committer (Commit t) set = inserted set t
with_committer (Abort t) set = set
with_committer (Invoke t o m) set = set
with_committer (Delegate t r q) set = set
with_committer (CommitOne t q) set = inserted set t
with_committer (AbortOne t q) set = set
with_committer (Spawn m c) set = set
