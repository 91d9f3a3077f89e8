-- An event of a history was accepted in the state that the events before it lead to, and what comes after it is a history from there.
use mathlib.Core.Path.{◌≡◌, sym, ◌∙◌, subst}
use mathlib.Core.List.{List, [], ◌∷◌, ◌++◌}
use Prim.Native.Nat.{ℕ}
use native.Mathlib.Omega.{arith}
use Rattle.terms.specs.declared.Event.{Event}
use Rattle.terms.specs.declared.Verdict.TheVariants.{Accepted}
use Rattle.tables.specs.declared.Tables.{Tables}
use Rattle.rules.specs.declared.State.{State}
use Rattle.judge.specs.Judge.{judged}
use Rattle.judge.proofs.EventLaws.{by-verdict}
use Rattle.histories.specs.Histories.{next, run, taken}
use Rattle.histories.proofs.RunLaws.{taken-no}

none_more : (xs ys : List Event) (e : Event) → [] ≡ xs ++ (e ∷ ys) → ⊥
none_more [] ys e q = let z : ◌≡◌ {A = ℕ} 0 1 = cc in omega arith
none_more (x ∷ xs) ys e q = let z : ◌≡◌ {A = ℕ} 0 1 = cc in omega arith

same_head : (x y : Event) (xs ys : List Event) → x ∷ xs ≡ y ∷ ys → (x ≡ y) × (xs ≡ ys)
same_head x y xs ys q = (cc, cc)

-- e was accepted in this state, and the later ones are those accepted from there on
pub record Cut (tables : Tables) (s : State) (e : Event) (ys : List Event) : Type 0 where
  pub accepted : (judged tables s e).verdict ≡ Accepted
  pub rest : List Event
  pub later : taken tables (next tables s e) rest ≡ ys

pub cut : (tables : Tables) (es xs ys : List Event) (s : State) (e : Event) → taken tables s es ≡ xs ++ (e ∷ ys) → Cut tables (run tables s xs) e ys
unfolding run taken
cut tables [] xs ys s e q = absurd (none_more xs ys e q)
cut tables (f ∷ es) xs ys s e q =
    by-verdict tables s f
    (λ v. here v (λ ws r. cut tables es ws ys (next tables s f) e r) xs (sym (taken_is v) ∙ q))
    (λ r v. cut tables es xs ys s e (sym (taken-no tables s f r v es) ∙ q))
  where
    taken_is : (judged tables s f).verdict ≡ Accepted → taken tables s (f ∷ es) ≡ f ∷ taken tables (next tables s f) es
    taken_is v = rw v

    here : (judged tables s f).verdict ≡ Accepted → ((ws : List Event) → taken tables (next tables s f) es ≡ ws ++ (e ∷ ys) → Cut tables (run tables (next tables s f) ws) e ys)
        → (xs : List Event) → f ∷ taken tables (next tables s f) es ≡ xs ++ (e ∷ ys) → Cut tables (run tables s xs) e ys
    here v go [] q =
        let h = same_head f e (taken tables (next tables s f) es) ys q in
        record {
          accepted = subst (λ (x : Event). (judged tables s x).verdict ≡ Accepted) h.0 v;
          rest = es;
          later = subst (λ (x : Event). taken tables (next tables s x) es ≡ ys) h.0 h.1;
        }
    here v go (x ∷ xs) q =
        let h = same_head f x (taken tables (next tables s f) es) (xs ++ (e ∷ ys)) q in
        subst (λ (y : Event). Cut tables (run tables (next tables s y) xs) e ys) h.0 (go xs h.1)
