-- Each policy's costs are bounded as every policy promises. Lemmas, all proved: nothing here is to be believed.
use Rattle.std.specs.Prelude.{◌≡◌, ℕ, ◌+◌, ◌-◌, ◌*◌, ◌<◌, ◌≤◌}
use Rattle.std.proofs.Common.{ap, ◌∙◌, zero-mul, mul-zero, one-mul, add-mul, le_trans, mul-le-mul_right, mul-le-mul_left, div-lt_iff_lt-mul, le-mul_of_pos_right, arith}
use Rattle.std.proofs.Math.Nat.{div-eq_of_lt, lt-div-mul-add}
use Rattle.costs.specs.Costs.{largest, Bounded, CopiesFit, ParityFit, copies_cost, parity_cost, ceiling_div, rounded_up}

pub copies_bounded : (n : ℕ) → CopiesFit n → Bounded (copies_cost n) (copies_cost n largest)
copies_bounded n fit =
    record {
      nothing = zero-mul n;
      something = λ size one few. le_trans fit.0 (rw one-mul at (mul-le-mul_right n one));
      within = λ size few. mul-le-mul_right n few;
      small = omega arith;
    }

-- Dividing with rounding up: nothing gives nothing, the quotient covers the dividend, it is the least that does, and so it grows with it.
pub ceiling_zero : (b : ℕ) → 1 ≤ b → ceiling_div 0 b ≡ 0
ceiling_zero b h = div-eq_of_lt (omega arith)

pub ceiling_covers : (a b : ℕ) → 1 ≤ b → a ≤ ceiling_div a b * b
ceiling_covers a b h = omega (arith, lt-div-mul-add {a = a + (b - 1)} {b = b} h)

pub ceiling_least : (a b q : ℕ) → 1 ≤ b → a ≤ q * b → ceiling_div a b ≤ q
ceiling_least a b q h few =
    let below : a + (b - 1) < (q + 1) * b = omega (arith, add-mul q 1 b, one-mul b) in
    let less : ceiling_div a b < q + 1 = (div-lt_iff_lt-mul h).1 below in
    omega arith

pub ceiling_grows : (a c b : ℕ) → 1 ≤ b → a ≤ c → ceiling_div a b ≤ ceiling_div c b
ceiling_grows a c b h few = ceiling_least a b (ceiling_div c b) h (le_trans few (ceiling_covers c b h))

-- sixteen sectors or fewer take at most sixteen rows
pub rows_few : (size d : ℕ) → 1 ≤ d → size ≤ largest → ceiling_div size d ≤ largest
rows_few size d h few = ceiling_least size d largest h (le_trans few (le-mul_of_pos_right largest h))

-- data and parity, before rounding up
abbrev sectors : ℕ → ℕ → ℕ → ℕ
sectors p w size = size + p * ceiling_div size (w - p)

sectors_grow : (p w a c : ℕ) → ParityFit p w → a ≤ c → sectors p w a ≤ sectors p w c
sectors_grow p w a c fit few =
    omega (arith, mul-le-mul_left p (ceiling_grows a c (w - p) (omega arith) few))

parity_nothing : (p w : ℕ) → ParityFit p w → parity_cost p w 0 ≡ 0
parity_nothing p w fit =
    let none : sectors p w 0 ≡ 0 = omega (arith, ap (λ (n : ℕ). p * n) (ceiling_zero (w - p) (omega arith)), mul-zero p) in
    ap (λ (n : ℕ). rounded_up n (p + 1)) none ∙ ap (λ (n : ℕ). n * (p + 1)) (ceiling_zero (p + 1) (omega arith)) ∙ zero-mul (p + 1)

parity_grows : (p w a c : ℕ) → ParityFit p w → a ≤ c → parity_cost p w a ≤ parity_cost p w c
parity_grows p w a c fit few =
    mul-le-mul_right (p + 1) (ceiling_grows (sectors p w a) (sectors p w c) (p + 1) (omega arith) (sectors_grow p w a c fit few))

parity_small : (p w : ℕ) → ParityFit p w → parity_cost p w largest ≤ 64
parity_small p w fit =
    let parity : p * ceiling_div largest (w - p) ≤ p * largest = mul-le-mul_left p (rows_few largest (w - p) (omega arith) (omega arith)) in
    let groups : ceiling_div (sectors p w largest) (p + 1) ≤ largest = ceiling_least (sectors p w largest) (p + 1) largest (omega arith) (omega arith) in
    omega (arith, mul-le-mul_right (p + 1) groups)

pub parity_bounded : (p w : ℕ) → ParityFit p w → Bounded (parity_cost p w) (parity_cost p w largest)
parity_bounded p w fit =
    record {
      nothing = parity_nothing p w fit;
      something = λ size one few. omega (arith, ceiling_covers (sectors p w size) (p + 1) (omega arith));
      within = λ size few. parity_grows p w size largest fit few;
      small = parity_small p w fit;
    }
