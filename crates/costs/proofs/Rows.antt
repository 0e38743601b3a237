-- Rounding up as the library does it is rounding up as the costs say it.
use Rattle.std.proofs.Common.{◌≡◌, ℕ, ◌+◌, ◌-◌, ◌*◌, ◌/◌, ◌%◌, ◌≤◌, ◌<◌, sym, ap, ◌∙◌, add-mul, one-mul, arith}
use Rattle.std.proofs.Math.Nat.{div-eq_of_lt-le}
use Rattle.std.proofs.lemmas.Grind.{div_ceil_times}
use Rattle.std.proofs.lemmas.Nat.{div-add-mod'}
use Rattle.std.specs.Int.{div_ceil}
use Rattle.costs.specs.Costs.{ceiling_div, rounded_up, parity_cost}

ceiling_is : (a b : ℕ) → 1 ≤ b → ceiling_div a b ≡ div_ceil a b
ceiling_is a b h =
    let q = div_ceil_times a b h in
    div-eq_of_lt-le b {m = a + (b - 1)} (omega (arith, q)) (omega (arith, q, add-mul (div_ceil a b) 1 b, one-mul b))

-- the multiple of m that is at most m - 1 above a
rounded_is : (a m r : ℕ) → 1 ≤ m → a ≤ r → r < a + m → r % m ≡ 0 → r ≡ rounded_up a m
rounded_is a m r h low high whole =
    let times : r / m * m ≡ r = omega (arith, div-add-mod' r m) in
    let groups : ceiling_div a m ≡ r / m =
    div-eq_of_lt-le m {m = a + (m - 1)} (omega (arith, times)) (omega (arith, times, add-mul (r / m) 1 m, one-mul m)) in
    sym times ∙ ap (λ (n : ℕ). n * m) (sym groups)

pub units_are :
    (p w size : ℕ) {rows parity units : ℕ} → p < w → rows ≡ div_ceil size (w - p) → parity ≡ p * rows →
    size + parity ≤ units → units < size + parity + (p + 1) → units % (p + 1) ≡ 0 → units ≡ parity_cost p w size
units_are p w size {rows} {parity} {units} h e f low high whole =
    rounded_is (size + parity) (p + 1) units (omega arith) low high whole
    ∙ ap (λ n. rounded_up (size + n) (p + 1)) (f ∙ ap (λ n. p * n) (e ∙ sym (ceiling_is size (w - p) (omega arith))))
