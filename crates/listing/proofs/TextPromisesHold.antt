-- What is promised of texts, of numbers in decimal and of the words holds.
use Prim.Native.Nat.{ℕ, zero, suc, ◌+◌, ◌*◌, ◌-◌, ◌/◌, ◌%◌, ◌^◌, ◌<◌}
use native.Mathlib.Nat.{pow-suc}
use native.Mathlib.Omega.{arith}
use mathlib.Core.Path.{◌≡◌, refl, ap, ◌∙◌}
use mathlib.Core.List.{List, [], ◌∷◌, ◌++◌}
use lib.Dec.{ltb}
use borrow.Author.Tests.{ltb-false, ltb-true}
use Rattle.laws.proofs.Bools.{bool_cases}
use Rattle.listing.specs.Promises.{Spelled, TextPromises, value_from}
use Rattle.listing.specs.Words.{decimal, digits_from}
use Rattle.listing.proofs.DigitLaws.{decimal-le}
use Rattle.listing.proofs.TextLaws.{all_append, all-fits}

-- ---- digits say their number

value-last : (v : ℕ) (xs : List ℕ) (d : ℕ) → value_from v (xs ++ (d ∷ [])) ≡ value_from v xs * 10 + (d - 48)
unfolding value_from
value-last v [] d = refl
value-last v (x ∷ xs) d = value-last (v * 10 + (x - 48)) xs d

value-digits : (k n : ℕ) → n < 10 ^ k → value_from 0 (digits_from k n) ≡ n
unfolding digits_from value_from
value-digits zero n h = let none : 0 ≡ n = omega arith in none
value-digits (suc k) n h =
    bool_cases (ltb n 10)
    (λ t. let low = ltb-true n 10 t in rw t (omega arith))
    (λ t.
    let high = ltb-false n 10 t in
    let less : n / 10 < 10 ^ k = tenth n (10 ^ k) (rw (pow-suc 10 k) at h) in
    rw t (value-last 0 (digits_from k (n / 10)) (48 + n % 10) ∙ ap (λ (x : ℕ). x * 10 + (48 + n % 10 - 48)) (value-digits k (n / 10) less) ∙ omega arith))
  where
    tenth : (n p : ℕ) → n < p * 10 → n / 10 < p
    tenth n p h = omega arith

value : (n : ℕ) → n < 2 ^ 64 → value_from 0 (decimal n) ≡ n
unfolding decimal
value n h = value-digits 20 n (omega arith)

pub text-promises : TextPromises
text-promises = record { parts = all_append; fits = all-fits; digits = decimal-le; value = value }

pub spelled : Spelled
unfolding decimal digits_from
spelled = record { phases = refl; fates = refl; marks = refl; steps = refl; accepted = refl; refused = refl }
