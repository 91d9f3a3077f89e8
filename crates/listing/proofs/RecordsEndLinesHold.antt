-- Only the last number of `op` lines goes by the records.
use Prim.Native.Nat.{ℕ}
use mathlib.Core.Path.{◌≡◌, ap, ap₂, ◌∙◌}
use mathlib.Core.List.{List, ◌++◌, append_assoc}
use Rattle.terms.specs.declared.Verdict.{Verdict}
use Rattle.tables.specs.declared.Tables.{Tables}
use Rattle.ties.specs.Operations.{op_at}
use Rattle.ties.specs.declared.Operation.{Operation}
use Rattle.rules.specs.States.{phase_of}
use Rattle.rules.specs.declared.State.{State}
use Rattle.closing.specs.Closing.{closing, outstanding}
use Rattle.onward.specs.declared.Judgement.{Judgement}
use Rattle.listing.specs.Lines.{fate_word, first_line_by, line_count, line_of, mark_word, phase_word, step_words}
use Rattle.listing.specs.Promises.{RecordsEndLines, operation_front}
use Rattle.listing.specs.Words.{blank, decimal, line_feed, operation_word, saga_word, transaction_word}

-- a line with what ends it: the parts joined from the left or from the right
ends : (q : ℕ) (op : Operation) (l : List ℕ)
    → operation_word
    ++ (decimal q ++ (blank ++ (decimal op.object ++ (blank ++ (mark_word op.mark ++ (blank ++ (decimal op.responsible ++ (blank ++ (fate_word op.fate ++ l)))))))))
    ≡ operation_front q op ++ l
ends q op l = simp append_assoc

first-lines : (r u : Judgement) → r.answer ≡ u.answer → r.events ≡ u.events → r.place ≡ u.place → line_of r 0 ≡ line_of u 0
unfolding line_of
first-lines r u a b c = ap₂ (λ (v : Verdict) (n : ℕ). first_line_by v n r.place) a b ∙ ap (first_line_by u.answer u.events) c

as_many : (r u : Judgement) → r.tables ≡ u.tables → r.state ≡ u.state → line_count r ≡ line_count u
unfolding line_count
as_many r u t s = rw (t, s)

pub records-end-lines : RecordsEndLines
records-end-lines r u =
    record {
      first_edition = λ q op pu. ends q op line_feed;
      second_edition = λ q op pu. ap (λ (l : List ℕ). l) (simp append_assoc);
      first_line = first-lines r u;
      transactions = λ e t. ap (λ (s : State). transaction_word ++ (decimal t ++ (blank ++ (phase_word (phase_of s.transactions t) ++ line_feed)))) e;
      operations = λ e q. ap (λ (s : State). operation_front q (op_at s.ops q)) e;
      sagas = λ a b i. ap₂ (λ (t : Tables) (s : State). saga_word ++ (decimal i ++ (blank ++ (decimal (outstanding t s i) ++ (blank ++ (step_words (closing t s i) ++ line_feed)))))) a b;
      count = as_many r u;
    }
