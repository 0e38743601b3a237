-- The bits of lent bytes: one is turned over, or the first of them are cleared.
use Rattle.std.proofs.Common.{◌≡◌, ℕ, zero, suc, ◌+◌, ◌-◌, ◌*◌, ◌/◌, ◌%◌, ◌^◌, ◌<◌, ◌≤◌, min, Bool, true, false, not, eqb, ltb, List, [], ◌∷◌, ◌++◌, length, get_or, take, drop, set, replicate, Ok, Option, MatchOption, sym, refl, ap, ◌∙◌, subst, inl, inr, mul_assoc, arith}
use native.Mathlib.Nat.{div-eq_of_lt}
use lib.Bits.{bit_xor, xor_zero_r}
use Rattle.std.proofs.lemmas.Nat.{xor_shr, xor_mod, shl-shr, shr-shr, pow-add, pow_below}
use Rattle.std.proofs.lemmas.List.{get_or-set_same, get_or-set_other, get_or_past, length-set, ext_get_or, length-replicate, get_or-replicate, get_or-take, get_or-drop, length-take-le, length-drop, length-append, get_or_append_left, get_or-append_right}
use Rattle.std.proofs.lemmas.List.FromFn.{length-map-range_with_len, get_or-map-range_with_len, fill_by_all}
use Rattle.std.proofs.lemmas.Bool.{cases_eq, cases_lt, ne_eqb, lt-ltb, le-ltb}
use Rattle.std.proofs.lemmas.Nat.Bits.{bit_at-trailing_ones}
use Rattle.std.specs.Bool.{then_some}
use Rattle.std.specs.Int.{w8, trailing_ones}
use Rattle.pool.proofs.Outs.{within}
use Rattle.pool.specs.Marks.{bit_of, bit_at, marks, turned, low_cleared, cleared, beside_bits, Room, Mapped}
use Rattle.pool.specs.Units.{Took, Gave}

-- the bits of 2 ^ j
pow_same : (j : ℕ) → 2 ^ j / 2 ^ j % 2 ≡ 1
pow_same j =
    let e : 1 * 2 ^ j ≡ 2 ^ j = omega arith in
    let s : 2 ^ j / 2 ^ j ≡ 1 = rw e at (shl-shr 1 j) in
    ap (λ (x : ℕ). x % 2) s

mul4 : (x a b : ℕ) → x * (a * 2 * b) ≡ x * a * 2 * b
mul4 x a b = sym (mul_assoc x (a * 2) b) ∙ ap (λ (z : ℕ). z * b) (sym (mul_assoc x a 2))

-- a multiple of a higher power has the bit clear
high_clear : (x d m : ℕ) → x * 2 ^ (d + 1 + m) / 2 ^ m % 2 ≡ 0
high_clear x d m =
    let e : 2 ^ (d + 1 + m) ≡ 2 ^ (d + 1) * 2 ^ m = pow-add 2 (d + 1) m in
    let t : 2 ^ (d + 1) ≡ 2 ^ d * 2 = pow-add 2 d 1 in
    let a : x * 2 ^ (d + 1 + m) ≡ x * 2 ^ d * 2 * 2 ^ m = ap (λ (z : ℕ). x * z) (e ∙ ap (λ (z : ℕ). z * 2 ^ m) t) ∙ mul4 x (2 ^ d) (2 ^ m) in
    let s : x * 2 ^ (d + 1 + m) / 2 ^ m ≡ x * 2 ^ d * 2 = ap (λ (z : ℕ). z / 2 ^ m) a ∙ shl-shr (x * 2 ^ d * 2) m in
    let u : x * 2 ^ (d + 1 + m) / 2 ^ m % 2 ≡ x * 2 ^ d * 2 % 2 = ap (λ (z : ℕ). z % 2) s in
    omega (arith, u)

pow_other : (j m : ℕ) → (m ≡ j → ⊥) → 2 ^ j / 2 ^ m % 2 ≡ 0
pow_other j m ne =
    elim (cases_lt j m) [
      | inl h ↦ ap (λ (x : ℕ). x % 2) (div-eq_of_lt (pow_below j m h))
      | inr h ↦
          let e : (j - m - 1) + 1 + m ≡ j = omega arith in
          let o : 1 * 2 ^ j ≡ 2 ^ j = omega arith in
          ap (λ (x : ℕ). x / 2 ^ m % 2) (sym o) ∙ ap (λ (x : ℕ). 1 * 2 ^ x / 2 ^ m % 2) (sym e) ∙ high_clear 1 (j - m - 1) m
    ]

-- xor, bit by bit
xor_bit : (x y m : ℕ) → bit_xor x y / 2 ^ m % 2 ≡ bit_xor (x / 2 ^ m % 2) (y / 2 ^ m % 2)
xor_bit x y m = ap (λ (z : ℕ). z % 2) (xor_shr x y m) ∙ xor_mod (x / 2 ^ m) (y / 2 ^ m) 1

turned-one : (b : ℕ) → b < 2 → eqb (bit_xor b 1) 1 ≡ not (eqb b 1)
turned-one zero h = refl
turned-one (suc zero) h = refl
turned-one (suc (suc b)) h = absurd (omega arith)

kept-one : (b : ℕ) → b < 2 → eqb (bit_xor b 0) 1 ≡ eqb b 1
kept-one zero h = refl
kept-one (suc zero) h = refl
kept-one (suc (suc b)) h = absurd (omega arith)

turned_same : (x j : ℕ) → bit_of (bit_xor x (2 ^ j)) j ≡ not (bit_of x j)
turned_same x j =
    ap (λ (z : ℕ). eqb z 1) (xor_bit x (2 ^ j) j ∙ ap (λ (z : ℕ). bit_xor (x / 2 ^ j % 2) z) (pow_same j))
    ∙ turned-one (x / 2 ^ j % 2) (omega arith)

turned_other : (x j m : ℕ) → (m ≡ j → ⊥) → bit_of (bit_xor x (2 ^ j)) m ≡ bit_of x m
turned_other x j m ne =
    ap (λ (z : ℕ). eqb z 1) (xor_bit x (2 ^ j) m ∙ ap (λ (z : ℕ). bit_xor (x / 2 ^ m % 2) z) (pow_other j m ne))
    ∙ kept-one (x / 2 ^ m % 2) (omega arith)

byte_here : (bs : List ℕ) (i k : ℕ) → i / 8 < length bs → k / 8 ≡ i / 8 → get_or (turned bs i) (k / 8) 0 ≡ bit_xor (get_or bs (i / 8) 0) (2 ^ (i % 8))
byte_here bs i k h e =
    ap (λ (n : ℕ). get_or (turned bs i) n 0) e ∙ get_or-set_same bs (i / 8) (bit_xor (get_or bs (i / 8) 0) (2 ^ (i % 8))) 0 h

pub turned-here : (bs : List ℕ) (i : ℕ) → i / 8 < length bs → bit_at (turned bs i) i ≡ not (bit_at bs i)
turned-here bs i h =
    ap (λ (x : ℕ). bit_of x (i % 8)) (byte_here bs i i h refl) ∙ turned_same (get_or bs (i / 8) 0) (i % 8)

pub turned-there : (bs : List ℕ) (i : ℕ) → i / 8 < length bs → (k : ℕ) → (k ≡ i → ⊥) → bit_at (turned bs i) k ≡ bit_at bs k
turned-there bs i h k ne =
    elim (cases_eq (k / 8) (i / 8)) [
      | inl e ↦
          ap (λ (x : ℕ). bit_of x (k % 8)) (byte_here bs i k h e)
          ∙ turned_other (get_or bs (i / 8) 0) (i % 8) (k % 8) (λ q. ne (omega arith))
          ∙ ap (λ (n : ℕ). bit_of (get_or bs n 0) (k % 8)) (sym e)
      | inr o ↦
          ap (λ (x : ℕ). bit_of x (k % 8)) (get_or-set_other bs (i / 8) (k / 8) (bit_xor (get_or bs (i / 8) 0) (2 ^ (i % 8))) 0 o)
    ]

-- the list of the units
pub length-marks : (bs : List ℕ) (n : ℕ) → length (marks bs n) ≡ n
length-marks bs n = length-map-range_with_len (bit_at bs) 0 n

pub marks-at : (bs : List ℕ) (n k : ℕ) → k < n → get_or (marks bs n) k false ≡ bit_at bs k
marks-at bs n k h = get_or-map-range_with_len (bit_at bs) 0 n k k false h (omega arith)

pub marks-past : (bs : List ℕ) (n k : ℕ) → n ≤ k → get_or (marks bs n) k false ≡ false
marks-past bs n k h = get_or_past (marks bs n) k false (omega (arith, length-marks bs n))

marks-turned : (bs : List ℕ) (n i : ℕ) (v : Bool) → n ≤ 8 * length bs → i < n → not (bit_at bs i) ≡ v → marks (turned bs i) n ≡ set (marks bs n) i v
marks-turned bs n i v room h here =
    let cs = turned bs i in
    let fits : i / 8 < length bs = omega arith in
    let lc = length-marks cs n in
    let lb = length-marks bs n in
    ext_get_or false (marks cs n) (set (marks bs n) i v) (lc ∙ sym (length-set (marks bs n) i v ∙ lb))
    (λ k below. elim (cases_eq k i) [
      | inl e ↦
          marks-at cs n k (omega arith) ∙ ap (bit_at cs) e ∙ turned-here bs i fits ∙ here
          ∙ sym (ap (λ (j : ℕ). get_or (set (marks bs n) i v) j false) e ∙ get_or-set_same (marks bs n) i v false (omega arith))
      | inr o ↦
          marks-at cs n k (omega arith) ∙ turned-there bs i fits k o
          ∙ sym (get_or-set_other (marks bs n) i k v false o ∙ marks-at bs n k (omega arith))
    ])

-- every unit was found out
pub marks-all : (bs : List ℕ) (n : ℕ) → ((k : ℕ) → k < n → bit_at bs k ≡ true) → (k : ℕ) → k < length (marks bs n) → get_or (marks bs n) k false ≡ true
marks-all bs n all k h = let l = length-marks bs n in marks-at bs n k (omega arith) ∙ all k (omega arith)

pub out_below : (bs : List ℕ) (n u : ℕ) → get_or (marks bs n) u false ≡ true → u < n
out_below bs n u e = let l = length-marks bs n in let w = within (marks bs n) u e in omega arith

-- what one turned bit does to the units
pub turned_out : (bs : List ℕ) (n u : ℕ) → n ≤ 8 * length bs → u < n → bit_at bs u ≡ false → (u < length (marks bs n)) × (get_or (marks bs n) u false ≡ false) × (marks (turned bs u) n ≡ set (marks bs n) u true)
turned_out bs n u room h e =
    (omega (arith, length-marks bs n), marks-at bs n u h ∙ e, marks-turned bs n u true room h (ap not e))

pub turned_in : (bs : List ℕ) (n u : ℕ) → n ≤ 8 * length bs → get_or (marks bs n) u false ≡ true → (get_or (marks bs n) u false ≡ true) × (marks (turned bs u) n ≡ set (marks bs n) u false)
turned_in bs n u room e =
    let h = out_below bs n u e in
    let b : bit_at bs u ≡ true = sym (marks-at bs n u h) ∙ e in
    (e, marks-turned bs n u false room h (ap not b))

-- what one turned bit does to the hint
pub mapped_out : (bs : List ℕ) (n h u : ℕ) → Mapped bs n h → u < n → bit_at bs u ≡ false → ((k : ℕ) → k < u → bit_at bs k ≡ true) → Mapped (turned bs u) n (u + 1)
mapped_out bs n h u w b e all =
    let fits : u / 8 < length bs = omega (arith, w.room) in
    let l : length (turned bs u) ≡ length bs = length-set bs (u / 8) (bit_xor (get_or bs (u / 8) 0) (2 ^ (u % 8))) in
    record {
      room = (omega (arith, w.room), omega (arith, w.room), omega (arith, w.room));
      within = omega arith;
      below = λ k c. elim (cases_eq k u) [
        | inl q ↦ ap (bit_at (turned bs u)) q ∙ turned-here bs u fits ∙ ap not e
        | inr o ↦ turned-there bs u fits k o ∙ all k (omega arith)
      ];
    }

pub mapped_in : (bs : List ℕ) (n h u : ℕ) → Mapped bs n h → u < n → Mapped (turned bs u) n (min h u)
mapped_in bs n h u w b =
    let fits : u / 8 < length bs = omega (arith, w.room) in
    let l : length (turned bs u) ≡ length bs = length-set bs (u / 8) (bit_xor (get_or bs (u / 8) 0) (2 ^ (u % 8))) in
    record {
      room = (omega (arith, w.room), omega (arith, w.room), omega (arith, w.room));
      within = omega (arith, w.within);
      below = λ k c. turned-there bs u fits k (λ q. omega arith) ∙ w.below k (omega arith);
    }

-- a full byte
full_bit : (j : ℕ) → j < 8 → bit_of 255 j ≡ true
full_bit zero h = refl
full_bit (suc zero) h = refl
full_bit (suc (suc zero)) h = refl
full_bit (suc (suc (suc zero))) h = refl
full_bit (suc (suc (suc (suc zero)))) h = refl
full_bit (suc (suc (suc (suc (suc zero))))) h = refl
full_bit (suc (suc (suc (suc (suc (suc zero)))))) h = refl
full_bit (suc (suc (suc (suc (suc (suc (suc zero))))))) h = refl
full_bit (suc (suc (suc (suc (suc (suc (suc (suc j)))))))) h = absurd (omega arith)

-- the lowest bit that is clear of a byte that is not full
lowest_clear : (x t : ℕ) → x + 1 < 256 → t ≡ trailing_ones w8 x → (t < 8) × (bit_of x t ≡ false) × ((k : ℕ) → k < t → bit_of x k ≡ true)
lowest_clear x t h e =
    let P : ℕ → Type 0 = λ z. (z < 8) × (bit_of x z ≡ false) × ((k : ℕ) → k < z → bit_of x k ≡ true) in
    let l = bit_at-trailing_ones w8 x h in
    subst P (sym e) (l.0, ap (λ (z : ℕ). eqb z 1) l.1, λ k b. ap (λ (z : ℕ). eqb z 1) (l.2 k b))

-- the search for a clear bit, from the bytes that are known to be full
full-before : (bs : List ℕ) (n h i : ℕ) → Mapped bs n h → ((k : ℕ) → h / 8 ≤ k → k < i → get_or bs k 0 ≡ 255) → (k : ℕ) → k / 8 < i → bit_at bs k ≡ true
full-before bs n h i w full k b =
    elim (cases_lt k h) [
      | inl l ↦ w.below k l
      | inr l ↦ ap (λ (x : ℕ). bit_of x (k % 8)) (full (k / 8) (omega arith) b) ∙ full_bit (k % 8) (omega arith)
    ]

-- the bits of byte i, as bits of the memory
byte_bit : (bs : List ℕ) (i j k : ℕ) → j < 8 → 8 * i + j ≡ k → bit_at bs k ≡ bit_of (get_or bs i 0) j
byte_bit bs i j k h e =
    let d : k / 8 ≡ i = omega arith in
    let m : k % 8 ≡ j = omega arith in
    ap (λ (q : ℕ). bit_of (get_or bs q 0) (k % 8)) d ∙ ap (λ (q : ℕ). bit_of (get_or bs i 0) q) m

lowest_before : (bs : List ℕ) (n h i j : ℕ) → Mapped bs n h → ((k : ℕ) → h / 8 ≤ k → k < i → get_or bs k 0 ≡ 255) → j < 8 → ((k : ℕ) → k < j → bit_of (get_or bs i 0) k ≡ true) → (k : ℕ) → k < 8 * i + j → bit_at bs k ≡ true
lowest_before bs n h i j w full l low k b =
    elim (cases_lt (k / 8) i) [
      | inl c ↦ full-before bs n h i w full k c
      | inr c ↦ byte_bit bs i (k % 8) k (omega arith) (omega arith) ∙ low (k % 8) (omega arith)
    ]

-- the bytes from a on and before b
length_part : (bs : List ℕ) (a b : ℕ) → b ≤ length bs → length (take (b - a) (drop a bs)) ≡ b - a
length_part bs a b h = length-take-le (b - a) (drop a bs) (omega (arith, length-drop a bs))

part_at : (bs : List ℕ) (a b k : ℕ) → k < b - a → get_or (take (b - a) (drop a bs)) k 0 ≡ get_or bs (a + k) 0
part_at bs a b k h = get_or-take (b - a) (drop a bs) k 0 h ∙ get_or-drop a bs k 0

part_full : (bs : List ℕ) (a b m : ℕ) → m ≤ b - a → ((k : ℕ) → k < m → get_or (take (b - a) (drop a bs)) k 0 ≡ 255) → (k : ℕ) → a ≤ k → k < a + m → get_or bs k 0 ≡ 255
part_full bs a b m l all k h c =
    let j : a + (k - a) ≡ k = omega arith in
    ap (λ (x : ℕ). get_or bs x 0) (sym j) ∙ sym (part_at bs a b (k - a) (omega arith)) ∙ all (k - a) (omega arith)

-- the search has found no byte that is not full, or the first
pub none_clear : (bs : List ℕ) (n h a b : ℕ) → Mapped bs n h → a ≡ h / 8 → b ≤ length bs → n ≤ 8 * b → ((k : ℕ) → k < length (take (b - a) (drop a bs)) → get_or (take (b - a) (drop a bs)) k 0 ≡ 255) → (k : ℕ) → k < n → bit_at bs k ≡ true
none_clear bs n h a b w e l r all k c =
    let lp = length_part bs a b l in
    full-before bs n h b w (λ j lo hi. part_full bs a b (b - a) (omega arith) (λ i d. all i (omega arith)) j (omega arith) (omega arith)) k (omega arith)

pub first_clear : (bs : List ℕ) (n h a b m t : ℕ) → Mapped bs n h → a ≡ h / 8 → b ≤ length bs → get_or bs (a + m) 0 < 256 → t ≡ trailing_ones w8 (get_or bs (a + m) 0) → (m < length (take (b - a) (drop a bs))) × (get_or (take (b - a) (drop a bs)) m 0 ≡ 255 → ⊥) × ((k : ℕ) → k < m → get_or (take (b - a) (drop a bs)) k 0 ≡ 255) → (bit_at bs (8 * (a + m) + t) ≡ false) × ((k : ℕ) → k < 8 * (a + m) + t → bit_at bs k ≡ true)
first_clear bs n h a b m t w e l x s f =
    let lp = length_part bs a b l in
    let here : get_or (take (b - a) (drop a bs)) m 0 ≡ get_or bs (a + m) 0 = part_at bs a b m (omega arith) in
    let ne : get_or bs (a + m) 0 ≡ 255 → ⊥ = λ z. f.1 (here ∙ z) in
    let low = lowest_clear (get_or bs (a + m) 0) t (omega arith) s in
    let full : (k : ℕ) → h / 8 ≤ k → k < a + m → get_or bs k 0 ≡ 255 = λ k lo hi. part_full bs a b m (omega arith) f.2 k (omega arith) hi in
    (byte_bit bs (a + m) t (8 * (a + m) + t) low.0 refl ∙ low.1, lowest_before bs n h (a + m) t w full low.0 low.2)

-- the lowest bit that is clear is a unit's, or every unit is out
pub lowest_in : (bs : List ℕ) (n u : ℕ) (o : Option ℕ) → o ≡ then_some (ltb u n) u → (bit_at bs u ≡ false) × ((k : ℕ) → k < u → bit_at bs k ≡ true) → MatchOption o ((k : ℕ) → k < n → bit_at bs k ≡ true) (λ v. (v < n) × (bit_at bs v ≡ false) × ((k : ℕ) → k < v → bit_at bs k ≡ true))
lowest_in bs n u o e f =
    let P : Option ℕ → Type 0 = λ x. MatchOption x ((k : ℕ) → k < n → bit_at bs k ≡ true) (λ v. (v < n) × (bit_at bs v ≡ false) × ((k : ℕ) → k < v → bit_at bs k ≡ true)) in
    subst P (sym e) (elim (cases_lt u n) [
      | inl h ↦ subst P (ap (λ (b : Bool). then_some b u) (sym (lt-ltb u n h))) (h, f.0, f.1)
      | inr h ↦ subst P (ap (λ (b : Bool). then_some b u) (sym (le-ltb u n h))) (λ k l. f.1 k (omega arith))
    ])

-- a byte with its lowest bits cleared
low_clear : (x n j : ℕ) → j < min n 8 → bit_of (low_cleared x n) j ≡ false
low_clear x n j h =
    let m = min n 8 in
    let e : (m - j - 1) + 1 + j ≡ m = omega arith in
    let z : low_cleared x n / 2 ^ j % 2 ≡ 0 = ap (λ (y : ℕ). x / 2 ^ m * 2 ^ y / 2 ^ j % 2) (sym e) ∙ high_clear (x / 2 ^ m) (m - j - 1) j in
    ne_eqb (low_cleared x n / 2 ^ j % 2) 1 (λ q. omega arith)

low-kept : (x n j : ℕ) → min n 8 ≤ j → bit_of (low_cleared x n) j ≡ bit_of x j
low-kept x n j h =
    let m = min n 8 in
    let e : m + (j - m) ≡ j = omega arith in
    let a : low_cleared x n / 2 ^ j ≡ low_cleared x n / 2 ^ m / 2 ^ (j - m) = ap (λ (y : ℕ). low_cleared x n / 2 ^ y) (sym e) ∙ sym (shr-shr (low_cleared x n) m (j - m)) in
    let b : low_cleared x n / 2 ^ m ≡ x / 2 ^ m = shl-shr (x / 2 ^ m) m in
    let c : x / 2 ^ m / 2 ^ (j - m) ≡ x / 2 ^ j = shr-shr x m (j - m) ∙ ap (λ (y : ℕ). x / 2 ^ y) e in
    ap (λ (y : ℕ). eqb (y % 2) 1) (a ∙ ap (λ (y : ℕ). y / 2 ^ (j - m)) b ∙ c)

cleared_at : (bs : List ℕ) (n i : ℕ) → i < length bs → get_or (cleared bs n) i 0 ≡ low_cleared (get_or bs i 0) (n - 8 * i)
cleared_at bs n i h = get_or-map-range_with_len (λ j. low_cleared (get_or bs j 0) (n - 8 * j)) 0 (length bs) i i 0 h (omega arith)

pub length-cleared : (bs : List ℕ) (n : ℕ) → length (cleared bs n) ≡ length bs
length-cleared bs n = length-map-range_with_len (λ j. low_cleared (get_or bs j 0) (n - 8 * j)) 0 (length bs)

pub cleared-below : (bs : List ℕ) (n k : ℕ) → n ≤ 8 * length bs → k < n → bit_at (cleared bs n) k ≡ false
cleared-below bs n k room h =
    ap (λ (x : ℕ). bit_of x (k % 8)) (cleared_at bs n (k / 8) (omega arith)) ∙ low_clear (get_or bs (k / 8) 0) (n - 8 * (k / 8)) (k % 8) (omega arith)

pub cleared-above : (bs : List ℕ) (n k : ℕ) → n ≤ k → bit_at (cleared bs n) k ≡ bit_at bs k
cleared-above bs n k h =
    elim (cases_lt (k / 8) (length bs)) [
      | inl l ↦ ap (λ (x : ℕ). bit_of x (k % 8)) (cleared_at bs n (k / 8) l) ∙ low-kept (get_or bs (k / 8) 0) (n - 8 * (k / 8)) (k % 8) (omega arith)
      | inr l ↦
          let c = length-cleared bs n in
          ap (λ (x : ℕ). bit_of x (k % 8)) (get_or_past (cleared bs n) (k / 8) 0 (omega arith) ∙ sym (get_or_past bs (k / 8) 0 l))
    ]

pub cleared-marks : (bs : List ℕ) (n : ℕ) → n ≤ 8 * length bs → marks (cleared bs n) n ≡ replicate n false
cleared-marks bs n room =
    let lb = length-marks (cleared bs n) n in
    ext_get_or false (marks (cleared bs n) n) (replicate n false) (lb ∙ sym (length-replicate n false))
    (λ k below. marks-at (cleared bs n) n k (omega arith) ∙ cleared-below bs n k room (omega arith) ∙ sym (get_or-replicate n k false false (omega arith)))

pub cleared_mapped : (bs : List ℕ) (n : ℕ) → Room bs n → Mapped (cleared bs n) n 0
cleared_mapped bs n r =
    let l = length-cleared bs n in
    record { room = (r.0, r.1, omega (arith, r.2)); within = omega arith; below = λ k h. absurd (omega arith) }

-- what the loop has written: the front is cleared, and the rest as it was
clearing : (bs cs : List ℕ) (n m : ℕ) → length cs ≡ length bs → n ≤ 8 * m → ((k : ℕ) → k < m → get_or cs k 0 ≡ low_cleared (get_or bs k 0) (n - 8 * k)) → ((k : ℕ) → m ≤ k → get_or cs k 0 ≡ get_or bs k 0) → cs ≡ cleared bs n
clearing bs cs n m l room front rest =
    fill_by_all (λ i. low_cleared (get_or bs i 0) (n - 8 * i)) cs (length bs) 0 l
    (λ k h. elim (cases_lt k m) [
      | inl b ↦ front k b
      | inr b ↦
          let z : n - 8 * k ≡ 0 = omega arith in
          let o : low_cleared (get_or bs k 0) 0 ≡ get_or bs k 0 = omega arith in
          rest k b ∙ sym (ap (λ (y : ℕ). low_cleared (get_or bs k 0) y) z ∙ o)
    ])

pub cleared_front : (bs xs : List ℕ) (n m : ℕ) → m ≤ length bs → length xs ≡ m → n ≤ 8 * m → ((k : ℕ) → k < m → get_or xs k 0 ≡ low_cleared (get_or (take m bs) k 0) (n - 8 * k)) → xs ++ drop m bs ≡ cleared bs n
cleared_front bs xs n m s l r front =
    let t : length (xs ++ drop m bs) ≡ length bs = omega (arith, length-append xs (drop m bs), length-drop m bs) in
    clearing bs (xs ++ drop m bs) n m t r
    (λ k h. get_or_append_left xs (drop m bs) 0 k (omega arith) ∙ front k h ∙ ap (λ (x : ℕ). low_cleared x (n - 8 * k)) (get_or-take m bs k 0 h))
    (λ k h. let e : m + (k - m) ≡ k = omega arith in get_or-append_right xs (drop m bs) m k 0 l h ∙ get_or-drop m bs (k - m) 0 ∙ ap (λ (j : ℕ). get_or bs j 0) e)

-- the whole bytes are cleared, and then the byte in which the units end
low_all : (x n : ℕ) → x < 256 → 8 ≤ n → low_cleared x n ≡ 0
low_all x n b h =
    let m : min n 8 ≡ 8 = omega arith in
    let z : x / 2 ^ 8 * 2 ^ 8 ≡ 0 = omega arith in
    ap (λ (y : ℕ). x / 2 ^ y * 2 ^ y) m ∙ z

pub cleared_whole : (bs xs : List ℕ) (n : ℕ) → n ≤ 8 * length bs → ((k : ℕ) → get_or bs k 0 < 256) → xs ≡ replicate (length (take (n / 8) bs)) 0 → xs ++ drop (n / 8) bs ≡ cleared bs (8 * (n / 8))
cleared_whole bs xs n r b e =
    let i = n / 8 in
    let x : xs ≡ replicate i 0 = e ∙ ap (λ (m : ℕ). replicate m 0) (length-take-le i bs (omega arith)) in
    cleared_front bs xs (8 * i) i (omega arith) (ap length x ∙ length-replicate i 0) (omega arith)
    (λ k h. ap (λ (l : List ℕ). get_or l k 0) x ∙ get_or-replicate i k 0 0 h ∙ sym (low_all (get_or (take i bs) k 0) (8 * i - 8 * k) (omega (arith, b k, get_or-take i bs k 0 h)) (omega arith)))

pub cleared_last : (bs cs : List ℕ) (n v : ℕ) → n ≤ 8 * length bs → 8 * (n / 8) < n → cs ≡ cleared bs (8 * (n / 8)) → v ≡ low_cleared (get_or cs (n / 8) 0) (n - 8 * (n / 8)) → set cs (n / 8) v ≡ cleared bs n
cleared_last bs cs n v r h e s =
    let i = n / 8 in
    let l : length cs ≡ length bs = ap length e ∙ length-cleared bs (8 * i) in
    let was : (k : ℕ) → k < length bs → get_or cs k 0 ≡ low_cleared (get_or bs k 0) (8 * i - 8 * k) = λ k b. ap (λ (x : List ℕ). get_or x k 0) e ∙ cleared_at bs (8 * i) k b in
    fill_by_all (λ k. low_cleared (get_or bs k 0) (n - 8 * k)) (set cs i v) (length bs) 0 (length-set cs i v ∙ l)
    (λ k b. elim (cases_eq k i) [
      | inl q ↦
          let z : 8 * i - 8 * i ≡ 0 = omega arith in
          let o : low_cleared (get_or bs i 0) 0 ≡ get_or bs i 0 = omega arith in
          let w : get_or cs i 0 ≡ get_or bs i 0 = was i (omega arith) ∙ ap (low_cleared (get_or bs i 0)) z ∙ o in
          ap (λ (j : ℕ). get_or (set cs i v) j 0) q ∙ get_or-set_same cs i v 0 (omega arith) ∙ s ∙ ap (λ (x : ℕ). low_cleared x (n - 8 * i)) w
          ∙ ap (λ (j : ℕ). low_cleared (get_or bs j 0) (n - 8 * j)) (sym q)
      | inr o ↦
          let m : min (8 * i - 8 * k) 8 ≡ min (n - 8 * k) 8 = omega arith in
          get_or-set_other cs i k v 0 o ∙ was k b ∙ ap (λ (y : ℕ). get_or bs k 0 / 2 ^ y * 2 ^ y) m
    ])

-- a bit of a unit is none of what the memory holds beside the units
low-turned : (x n j : ℕ) → j < min n 8 → low_cleared (bit_xor x (2 ^ j)) n ≡ low_cleared x n
low-turned x n j h =
    let m = min n 8 in
    let e : bit_xor x (2 ^ j) / 2 ^ m ≡ x / 2 ^ m = xor_shr x (2 ^ j) m ∙ ap (λ (y : ℕ). bit_xor (x / 2 ^ m) y) (div-eq_of_lt (pow_below j m h)) ∙ xor_zero_r (x / 2 ^ m) in
    ap (λ (y : ℕ). y * 2 ^ m) e

cleared-turned : (bs : List ℕ) (n u : ℕ) → n ≤ 8 * length bs → u < n → cleared (turned bs u) n ≡ cleared bs n
cleared-turned bs n u room b =
    let cs = turned bs u in
    let v = bit_xor (get_or bs (u / 8) 0) (2 ^ (u % 8)) in
    let l : length cs ≡ length bs = length-set bs (u / 8) v in
    let lc = length-cleared cs n in
    let lb = length-cleared bs n in
    ext_get_or 0 (cleared cs n) (cleared bs n) (lc ∙ l ∙ sym lb)
    (λ i h. cleared_at cs n i (omega arith) ∙ elim (cases_eq i (u / 8)) [
      | inl e ↦
          ap (λ (k : ℕ). low_cleared (get_or cs k 0) (n - 8 * i)) e
          ∙ ap (λ (x : ℕ). low_cleared x (n - 8 * i)) (get_or-set_same bs (u / 8) v 0 (omega arith))
          ∙ low-turned (get_or bs (u / 8) 0) (n - 8 * i) (u % 8) (omega arith)
          ∙ ap (λ (k : ℕ). low_cleared (get_or bs k 0) (n - 8 * i)) (sym e)
      | inr o ↦ ap (λ (x : ℕ). low_cleared x (n - 8 * i)) (get_or-set_other bs (u / 8) i v 0 o)
    ] ∙ sym (cleared_at bs n i (omega arith)))

pub beside-turned : (m : ℕ) (bs cs : List ℕ) (n u : ℕ) → n ≤ 8 * length bs → u < n → cs ≡ turned bs u → beside_bits m cs n ≡ beside_bits m bs n
beside-turned m bs cs n u room b e = ap (λ (l : List ℕ). beside_bits m l n) e ∙ ap (λ (l : List ℕ). (m, n, l) ∷ []) (cleared-turned bs n u room b)

-- what the calls find in their memory, and leave
pub bit_out : (bs cs : List ℕ) (n h u : ℕ) → Mapped bs n h → cs ≡ turned bs u → u < n → bit_at bs u ≡ false → ((k : ℕ) → k < u → bit_at bs k ≡ true) → Mapped cs n (u + 1) × Took (marks bs n) (marks cs n) (Ok u)
bit_out bs cs n h u w e b o all =
    let P : List ℕ → Type 0 = λ l. Mapped l n (u + 1) × Took (marks bs n) (marks l n) (Ok u) in
    subst P (sym e) (mapped_out bs n h u w b o all, turned_out bs n u w.room.2 b o)

pub bit_in : (bs cs : List ℕ) (n h m u : ℕ) → Mapped bs n h → cs ≡ turned bs u → m ≡ min h u → get_or (marks bs n) u false ≡ true → Mapped cs n m × Gave (marks bs n) (marks cs n) u (Ok tt)
bit_in bs cs n h m u w e l o =
    let P : List ℕ → Type 0 = λ x. Mapped x n m × Gave (marks bs n) (marks x n) u (Ok tt) in
    let Q : ℕ → Type 0 = λ x. Mapped (turned bs u) n x in
    subst P (sym e) (subst Q (sym l) (mapped_in bs n h u w (out_below bs n u o)), turned_in bs n u w.room.2 o)
