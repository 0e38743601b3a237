-- Bytes written over what was there, one part after the other, and what is before and behind them.
use Rattle.std.proofs.Common.{◌≡◌, ℕ, suc, ◌+◌, ◌-◌, ◌≤◌, List, [], ◌∷◌, ◌++◌, length, take, drop, set, sym, ap, ◌∙◌, add-zero, arith, length-set, append-nil}
use Rattle.std.proofs.lemmas.List.{take-append-drop, take_more_set, drop-set-lt, append_assoc, drop-drop, drop_all}
use Rattle.orders.specs.Layout.{laid}

pub laid_++ : (out : List ℕ) (at : ℕ) (xs ys : List ℕ) → laid out at (xs ++ ys) ≡ laid (laid out at xs) (at + length xs) ys
laid_++ out at [] ys = ap (λ n. laid out n ys) (sym (add-zero at))
laid_++ out at (x ∷ xs) ys =
    let e : at + 1 + length xs ≡ at + suc (length xs) = omega arith in
    laid_++ (set out at x) (at + 1) xs ys ∙ ap (λ n. laid (laid (set out at x) (at + 1) xs) n ys) e

pub laid_between : (out : List ℕ) (at : ℕ) (bs : List ℕ) → at + length bs ≤ length out → take at out ++ (bs ++ drop (length bs) (drop at out)) ≡ laid out at bs
laid_between out at [] h = take-append-drop at out
laid_between out at (b ∷ bs) h =
    let front : take (at + 1) (set out at b) ≡ take at out ++ b ∷ [] = take_more_set out at b (omega arith) in
    let behind : at + suc (length bs) ≡ at + 1 + length bs = omega arith in
    let back : drop (suc (length bs)) (drop at out) ≡ drop (length bs) (drop (at + 1) (set out at b)) =
    drop-drop (suc (length bs)) at out ∙ ap (λ n. drop n out) behind ∙ sym (drop-drop (length bs) (at + 1) out)
    ∙ ap (λ l. drop (length bs) l) (sym (drop-set-lt (at + 1) out at b (omega arith))) in
    ap (λ l. take at out ++ b ∷ (bs ++ l)) back
    ∙ sym (append_assoc (take at out) (b ∷ []) (bs ++ drop (length bs) (drop (at + 1) (set out at b))))
    ∙ ap (λ l. l ++ (bs ++ drop (length bs) (drop (at + 1) (set out at b)))) (sym front)
    ∙ laid_between (set out at b) (at + 1) bs (omega (arith, length-set out at b))

-- the first byte, then all that is behind it
pub first_then : (out bs : List ℕ) (b : ℕ) → length out ≡ suc (length bs) → take 1 (set out 0 b) ++ (bs ++ drop (length (set out 0 b) - 1) (drop 1 (set out 0 b))) ≡ b ∷ bs
first_then [] bs b h = absurd (omega (arith, h))
first_then (x ∷ xs) bs b h = ap (λ l. b ∷ (bs ++ l)) (drop_all (length (x ∷ xs) - 1) xs (omega arith)) ∙ ap (λ l. b ∷ l) (append-nil bs)
