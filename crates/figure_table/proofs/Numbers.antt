-- A number that a space follows.
use Rattle.std.proofs.Common.{◌≡◌, ◌≢◌, ℕ, ◌^◌, ◌<◌, List, ◌∷◌, ◌++◌, length, decimal, slice_index, Bor, Some, None, Ok, Result, arith}
use Rattle.std.proofs.lemmas.Fmt.{decimal_is_IsNumeral, parse-decimal}
use Rattle.std.proofs.lemmas.Str.Parse.{digit_at}
use Rattle.std.proofs.lemmas.Str.Pattern.{IsSplitOnceResult, split_after}
use Rattle.std.specs.Str.Parse.{ParsesUnsigned}

-- no space stands among a number's digits
spaceless : (n : ℕ) → n < 2 ^ 64 → (i : ℕ) → i < length (decimal n) → slice_index (decimal n) i ≢ 32
spaceless n h i l e = let digit = digit_at (decimal n) i (decimal_is_IsNumeral n h).0.1 l in omega arith

-- so a text that begins with one is parted after its digits
pub byte_parted : {text : List ℕ} (n : ℕ) (after : List ℕ) → n < 2 ^ 8 → text ≡ decimal n ++ (32 ∷ after) → IsSplitOnceResult 32 text None → ⊥
byte_parted n after small e none = split_after 32 _ (decimal n) after None none (omega arith) e (spaceless n (omega arith))

pub byte_read :
    {E : Type 0} {text : List ℕ} (n : ℕ) (after : List ℕ) (word rest : Bor (List ℕ)) (r : Result ℕ E) → n < 2 ^ 8 → text ≡ decimal n ++ (32 ∷ after) →
    IsSplitOnceResult 32 text (Some (word, rest)) → ParsesUnsigned 8 10 word.now r → (r ≡ Ok n) × (rest.now ≡ after)
byte_read {E} {text} n after word rest r small e parts reads =
    let parted = split_after 32 _ (decimal n) after (Some (word, rest)) parts (omega arith) e (spaceless n (omega arith)) in
    (parse-decimal 8 n _ r small (omega arith) parted.0 reads, parted.1)
