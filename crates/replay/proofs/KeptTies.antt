-- Ties between committed operations, and who holds such an operation: as they are worked out, and as the promises say it.
use Prim.Native.Nat.{ℕ, ◌<◌}
use native.Mathlib.Omega.{arith}
use mathlib.Core.Path.{◌≡◌, refl, sym, ap, ◌∙◌}
use mathlib.Core.Bool.{true, false, not}
use lib.Dec.{eqb, ltb}
use borrow.Author.Tests.{eq-eqb, eqb-true}
use Rattle.laws.proofs.Bools.{and_on, bool_cases, clash, not_on, on_and, or_left}
use Rattle.laws.proofs.IndexLaws.{any-elim, any-intro}
use Rattle.terms.specs.Limits.{most_transactions}
use Rattle.ties.specs.Operations.{is_aborted, is_committed, op_at, size}
use Rattle.ties.specs.Ties.{before, conflict, is_gone, stood, tied_to}
use Rattle.ties.specs.declared.Fate.{Fate}
use Rattle.ties.specs.declared.Fate.TheVariants.{Aborted, Active, Committed}
use Rattle.ties.specs.declared.Operation.{Operation}
use Rattle.ties.specs.declared.Ops.{Ops}
use Rattle.ties.proofs.TieLaws.{Between, between, kept_small, tie-made, tie_parts, ties-on}
use Rattle.replay.specs.Promises.{HoldsCommitted, Tie}
use Rattle.replay.specs.Replay.{comes_before, holds, kept, kept_by}

is-committed : (f : Fate) → is_committed f ≡ true → f ≡ Committed
is-committed Aborted h = clash h refl
is-committed Active h = clash h refl
is-committed Committed h = refl

-- what is committed is as it is, and nothing else counts
kept-is : (op : Operation) → is_committed op.fate ≡ true → kept op ≡ op
kept-is op h = rw h

kept_there : (op : Operation) → is_gone (kept op) ≡ false → is_committed op.fate ≡ true
kept_there op h = bool_cases (is_committed op.fate) (λ e. e) (λ e. clash refl (rw e at h))

-- a tie that counts for the order of transactions, both operations committed
pub record KeptTie (ops : Ops) (a b : ℕ) : Type 0 where
  pub way : Between (size ops) (op_at ops) a b
  pub here : is_committed (op_at ops way.p).fate ≡ true
  pub there : is_committed (op_at ops way.q).fate ≡ true

module _ (ops : Ops) (a b : ℕ) where
  pub tie-of : comes_before ops a b ≡ true → KeptTie ops a b
  unfolding comes_before
  tie-of h =
      let w = between (size ops) (λ q. kept (op_at ops q)) a b h in
      let here = kept_there (op_at ops w.p) w.tie.here in
      let there = kept_there (op_at ops w.q) w.tie.there in
      let fp = kept-is (op_at ops w.p) here in
      let fq = kept-is (op_at ops w.q) there in
      record {
        way =
            record {
              p = w.p;
              q = w.q;
              earlier = w.earlier;
              below = w.below;
              tie = rw (fp, fq) at w.tie;
              first = rw fp at w.first;
              second = rw fq at w.second;
            };
        here = here;
        there = there;
      }

  pub of-tie : KeptTie ops a b → comes_before ops a b ≡ true
  unfolding comes_before
  of-tie w =
      let fp = kept-is (op_at ops w.way.p) w.here in
      let fq = kept-is (op_at ops w.way.q) w.there in
      ties-on (size ops) (λ q. kept (op_at ops q)) a b
      (record {
        p = w.way.p;
        q = w.way.q;
        earlier = w.way.earlier;
        below = w.way.below;
        tie = rw (fp, fq) w.way.tie;
        first = rw fp w.way.first;
        second = rw fq w.way.second;
      })

  -- whoever comes before another stands before it
  pub comes-stands : comes_before ops a b ≡ true → before ops a b ≡ true
  comes-stands h = ties-on (size ops) (op_at ops) a b (tie-of h).way

-- ---- as the promises say it

-- nothing but an abort takes an operation out of the order
abbrev pub Limited : Ops → Type 0
Limited ops = (p : ℕ) → p < size ops → (op_at ops p).fate ≡ Committed → is_gone (op_at ops p) ≡ false

module _ (ops : Ops) where
  pub holds-is : (t : ℕ) → holds ops t ≡ true → HoldsCommitted ops t
  unfolding holds
  holds-is t h =
      let w = any-elim (size ops) (λ q. kept_by t (op_at ops q)) h in
      let op = op_at ops w.0 in
      let both = on_and (is_committed op.fate) (eqb op.responsible t) w.2 in
      record { q = w.0; accepted = w.1; committed = is-committed op.fate both.0; whose = eqb-true op.responsible t both.1 }

  pub is-holds : (t : ℕ) → HoldsCommitted ops t → holds ops t ≡ true
  unfolding holds
  is-holds t w =
      let op = op_at ops w.q in
      any-intro (size ops) (λ q. kept_by t (op_at ops q)) w.q w.accepted
      (and_on (is_committed op.fate) (eqb op.responsible t) (ap is_committed w.committed) (eq-eqb op.responsible t w.whose))

  module _ (a b : ℕ) where
    pub tie-is : comes_before ops a b ≡ true → Tie ops a b
    unfolding tied_to
    tie-is h =
        let w = tie-of ops a b h in
        let p = op_at ops w.way.p in
        let q = op_at ops w.way.q in
        let here = is-committed p.fate w.here in
        record {
          p = w.way.p;
          q = w.way.q;
          tie =
              tie-made ops w.way.p w.way.q
              (record {
                accepted = w.way.below;
                earlier = w.way.earlier;
                holds =
                    and_on (conflict p q.object q.mark) (stood p w.way.q) w.way.tie.conflicts
                    (or_left (not (is_aborted p.fate)) (ltb w.way.q p.ended) (not_on (is_aborted p.fate) (ap is_aborted here)));
              });
          here = here;
          there = is-committed q.fate w.there;
          first = w.way.first;
          second = w.way.second;
          differ = λ e. w.way.tie.other (w.way.first ∙ e ∙ sym w.way.second);
        }

    pub is-tie : Limited ops → Tie ops a b → comes_before ops a b ≡ true
    unfolding tied_to
    is-tie limited w =
        let parts = tie_parts ops w.p w.q w.tie in
        let p = op_at ops w.p in
        let q = op_at ops w.q in
        of-tie ops a b
        (record {
          way =
              record {
                p = w.p;
                q = w.q;
                earlier = parts.earlier;
                below = parts.accepted;
                tie =
                    record {
                      conflicts = (on_and (conflict p q.object q.mark) (stood p w.q) parts.holds).0;
                      here = limited w.p (omega (arith, parts.earlier, parts.accepted)) w.here;
                      there = limited w.q parts.accepted w.there;
                      other = λ e. w.differ (sym w.first ∙ e ∙ w.second);
                    };
                first = w.first;
                second = w.second;
              };
          here = ap is_committed w.here;
          there = ap is_committed w.there;
        })

    -- the earlier of the two holds a committed operation
    pub first_holds : Tie ops a b → HoldsCommitted ops a
    first_holds w =
        let parts = tie_parts ops w.p w.q w.tie in
        record { q = w.p; accepted = omega (arith, parts.earlier, parts.accepted); committed = w.here; whose = w.first }

  pub holder-small : Limited ops → (t : ℕ) → HoldsCommitted ops t → t < most_transactions
  holder-small limited t w = omega (arith, (kept_small (op_at ops w.q) (limited w.q w.accepted w.committed)).0, w.whose)
