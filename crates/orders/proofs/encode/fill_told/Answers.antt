use Rattle.std.proofs.Common.{◌≡◌, ℕ, ◌-◌, ◌++◌, length, List, [], ◌∷◌, take, drop, set, sym, ap, ◌∙◌, arith, append-nil, length-append}
use Rattle.std.proofs.lemmas.List.{drop_all, length-drop}
use Rattle.std.proofs.Math.Seq.{take-append_seam}
use Rattle.orders.specs.Layout.{two}
use Rattle.orders.proofs.encode.fill_told.Goals as goal

-- the kind and the name, with what is still behind them
abbrev named : List ℕ → List ℕ → List ℕ
named room name = take 1 (set room 0 0x82) ++ (name ++ drop 8 (drop 1 (set room 0 0x82)))

-- the kind, then the name, then the counts
in_parts :
    (room name counts : List ℕ) → length name ≡ 8 → length room ≡ 17 →
    take 9 (named room name) ++ (counts ++ drop (length (named room name) - 9) (drop 9 (named room name))) ≡ 0x82 ∷ (name ++ counts)
in_parts [] name counts n r = absurd (omega (arith, r))
in_parts (x ∷ xs) name counts n r =
    let rest : List ℕ = drop 8 xs in
    let front : take 8 (name ++ rest) ≡ name = ap (λ k. take k (name ++ rest)) (sym n) ∙ take-append_seam name rest in
    let behind : drop (length (named (x ∷ xs) name) - 9) (drop 9 (named (x ∷ xs) name)) ≡ [] =
    drop_all (length (named (x ∷ xs) name) - 9) (drop 9 (named (x ∷ xs) name)) (omega (arith, length-drop 9 (named (x ∷ xs) name))) in
    ap (λ l. take 9 (named (x ∷ xs) name) ++ (counts ++ l)) behind
    ∙ ap (λ l. take 9 (named (x ∷ xs) name) ++ l) (append-nil counts)
    ∙ ap (λ l. 0x82 ∷ (l ++ counts)) front

pub returns : goal.returns
returns c =
    let room = c.args.room.now in
    let name = c.args.figures.name in
    let eight : length name ≡ 8 = omega arith in
    ap (λ (l : List ℕ). take 9 (named room l) ++ (c.copy_from_slice-2.new.self ++ drop (length (named room l) - 9) (drop 9 (named room l)))) c.copy_from_slice.ensures.after
    ∙ in_parts room name c.copy_from_slice-2.new.self eight (omega (arith, c.requires, length-append name (two c.args.figures.charge ++ (two c.args.figures.record_units ++ (two c.args.figures.deferred_units ++ two c.args.figures.unspent_grants)))))
    ∙ ap (λ (l : List ℕ). 0x82 ∷ (name ++ l)) (c.copy_from_slice-2.ensures.after ∙ c.counts.ensures)
