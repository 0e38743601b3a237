-- A chain through the units that are in: its head is taken off, or another unit is put before it.
use Rattle.std.proofs.Common.{◌≡◌, ℕ, zero, suc, ◌+◌, ◌<◌, ◌≤◌, Bool, true, false, eqb, List, [], ◌∷◌, ◌++◌, length, get_or, drop, set, replicate, Ok, sym, refl, ap, ◌∙◌, subst, inl, inr, arith}
use Rattle.std.proofs.lemmas.List.{length-set, length-append, length-drop, get_or-set_same, get_or-set_other, get_or_append_left, drop-set-lt, get_or_past, ext_get_or, length-replicate, get_or-replicate}
use Rattle.std.proofs.lemmas.List.FromFn.{length-range_with_len, get_or-range_with_len, length-map-range_with_len, get_or-map-range_with_len}
use Rattle.std.proofs.lemmas.Bool.{cases_eq, eq-eqb, ne_eqb, eqb-true}
use Rattle.std.specs.List.{range_with_len}
use Rattle.pool.specs.Links.{out_at, taken, chained, beside_links, Apart, Among, Threads, Space, Linked}
use Rattle.pool.specs.Units.{Took, Gave}
use Rattle.pool.proofs.Outs.{within}

low : (ls : List ℕ) (n h : ℕ) (xs : List ℕ) → Threads ls n h xs → h ≤ n
low ls n h [] t = omega (arith, t)
low ls n h (x ∷ xs) t = omega (arith, t.0, t.1)

apart_out : (ls : List ℕ) (n h : ℕ) (xs : List ℕ) → n ≤ 4096 → Threads ls n h xs → (u : ℕ) → get_or ls u 0 ≡ 65535 → Apart u xs
apart_out ls n h [] f t u e = tt
apart_out ls n h (x ∷ xs) f t u e =
    ((λ q. let s : get_or ls u 0 ≡ get_or ls x 0 = ap (λ (k : ℕ). get_or ls k 0) q in let l = low ls n (get_or ls x 0) xs t.3 in omega arith), apart_out ls n (get_or ls x 0) xs f t.3 u e)

threads-set : (ls : List ℕ) (n h : ℕ) (xs : List ℕ) (u v : ℕ) → Apart u xs → Threads ls n h xs → Threads (set ls u v) n h xs
threads-set ls n h [] u v a t = t
threads-set ls n h (x ∷ xs) u v a t =
    let o : get_or (set ls u v) x 0 ≡ get_or ls x 0 = get_or-set_other ls u x v 0 (λ q. a.0 (sym q)) in
    let r = threads-set ls n (get_or ls x 0) xs u v a.1 t.3 in
    let P : ℕ → Type 0 = λ m. Threads (set ls u v) n m xs in
    (t.0, t.1, t.2, subst P (sym o) r)

space-set : (ls : List ℕ) (n u v : ℕ) → Space ls n → Space (set ls u v) n
space-set ls n u v s = (s.0, s.1, omega (arith, length-set ls u v, s.2))

pub head_below : (ls : List ℕ) (n h : ℕ) → Linked ls n h → (h ≡ n → ⊥) → h < n
head_below ls n h w ne = let l = low ls n h w.free w.threads in let z : h ≡ n → ⊥ = ne in omega arith

unlink : (ls : List ℕ) (n h : ℕ) (xs : List ℕ) → Space ls n → Threads ls n h xs → ((k : ℕ) → k < n → (get_or ls k 0 ≡ 65535 → ⊥) → Among k xs) → (h ≡ n → ⊥) → Linked (set ls h 65535) n (get_or ls h 0)
unlink ls n h [] s t all ne = absurd (ne t)
unlink ls n h (x ∷ xs) s t all ne =
    let P : ℕ → Type 0 = λ m. Apart m xs in
    let Q : ℕ → Type 0 = λ m. Threads ls n (get_or ls m 0) xs in
    let a : Apart h xs = subst P (sym t.0) t.2 in
    let r : Threads ls n (get_or ls h 0) xs = subst Q (sym t.0) t.3 in
    record {
      space = space-set ls n h 65535 s;
      free = xs;
      threads = threads-set ls n (get_or ls h 0) xs h 65535 a r;
      all = λ k b o. elim (cases_eq k h) [
        | inl q ↦ absurd (o (ap (λ (j : ℕ). get_or (set ls h 65535) j 0) q ∙ get_or-set_same ls h 65535 0 (omega (arith, t.0, t.1, s.2))))
        | inr m ↦ elim (all k b (λ e. o (get_or-set_other ls h k 65535 0 m ∙ e))) [ inl q ↦ absurd (m (q ∙ sym t.0)) | inr i ↦ i ]
      ];
    }

pub taken-linked : (ls : List ℕ) (n h : ℕ) → Linked ls n h → (h ≡ n → ⊥) → Linked (set ls h 65535) n (get_or ls h 0)
taken-linked ls n h w ne = unlink ls n h w.free w.space w.threads w.all ne

pub given_linked : (ls : List ℕ) (n h u : ℕ) → Linked ls n h → u < n → get_or ls u 0 ≡ 65535 → Linked (set ls u h) n u
given_linked ls n h u w b e =
    let a : Apart u w.free = apart_out ls n h w.free w.space.1 w.threads u e in
    let g : get_or (set ls u h) u 0 ≡ h = get_or-set_same ls u h 0 (omega (arith, w.space.2)) in
    let P : ℕ → Type 0 = λ m. Threads (set ls u h) n m w.free in
    record {
      space = space-set ls n u h w.space;
      free = u ∷ w.free;
      threads = (refl, b, a, subst P (sym g) (threads-set ls n h w.free u h a w.threads));
      all = λ k c o. elim (cases_eq k u) [ inl q ↦ inl q | inr m ↦ inr (w.all k c (λ e'. o (get_or-set_other ls u k h 0 m ∙ e'))) ];
    }

-- the list of the units
pub length_taken : (ls : List ℕ) (n : ℕ) → length (taken ls n) ≡ n
length_taken ls n = length-map-range_with_len (out_at ls) 0 n

pub taken_at : (ls : List ℕ) (n k : ℕ) → k < n → get_or (taken ls n) k false ≡ out_at ls k
taken_at ls n k h = get_or-map-range_with_len (out_at ls) 0 n k k false h (omega arith)

pub taken-past : (ls : List ℕ) (n k : ℕ) → n ≤ k → get_or (taken ls n) k false ≡ false
taken-past ls n k h = get_or_past (taken ls n) k false (omega (arith, length_taken ls n))

pub out_under : (ls : List ℕ) (n u : ℕ) → get_or (taken ls n) u false ≡ true → (u < n) × (get_or ls u 0 ≡ 65535)
out_under ls n u e =
    let l = length_taken ls n in
    let w = within (taken ls n) u e in
    let b : u < n = omega arith in
    (b, eqb-true (get_or ls u 0) 65535 (sym (taken_at ls n u b) ∙ e))

taken-set : (ls : List ℕ) (n u v : ℕ) → n ≤ length ls → u < n → taken (set ls u v) n ≡ set (taken ls n) u (eqb v 65535)
taken-set ls n u v s b =
    let l = length_taken ls n in
    let m = length_taken (set ls u v) n in
    let o = eqb v 65535 in
    ext_get_or false (taken (set ls u v) n) (set (taken ls n) u o) (m ∙ sym (length-set (taken ls n) u o ∙ l))
    (λ k c. elim (cases_eq k u) [
      | inl q ↦
          taken_at (set ls u v) n k (omega arith) ∙ ap (out_at (set ls u v)) q ∙ ap (λ (x : ℕ). eqb x 65535) (get_or-set_same ls u v 0 (omega arith))
          ∙ sym (ap (λ (j : ℕ). get_or (set (taken ls n) u o) j false) q ∙ get_or-set_same (taken ls n) u o false (omega arith))
      | inr d ↦
          taken_at (set ls u v) n k (omega arith) ∙ ap (λ (x : ℕ). eqb x 65535) (get_or-set_other ls u k v 0 d)
          ∙ sym (get_or-set_other (taken ls n) u k o false d ∙ taken_at ls n k (omega arith))
    ])

-- the next of the head is a unit or the end, so the head is in
not_out : (ls : List ℕ) (n h : ℕ) (xs : List ℕ) → n ≤ 4096 → Threads ls n h xs → (h ≡ n → ⊥) → get_or ls h 0 ≡ 65535 → ⊥
not_out ls n h [] f t ne e = ne t
not_out ls n h (x ∷ xs) f t ne e =
    let l = low ls n (get_or ls x 0) xs t.3 in
    let s : get_or ls h 0 ≡ get_or ls x 0 = ap (λ (k : ℕ). get_or ls k 0) t.0 in
    omega arith

pub took_head : (ls : List ℕ) (n h : ℕ) → Linked ls n h → (h ≡ n → ⊥) → Took (taken ls n) (taken (set ls h 65535) n) (Ok h)
took_head ls n h w ne =
    let b = head_below ls n h w ne in
    (omega (arith, length_taken ls n), taken_at ls n h b ∙ ne_eqb (get_or ls h 0) 65535 (not_out ls n h w.free w.space.1 w.threads ne), taken-set ls n h 65535 w.space.2 b)

full : (ls : List ℕ) (n h : ℕ) (xs : List ℕ) → Threads ls n h xs → ((k : ℕ) → k < n → (get_or ls k 0 ≡ 65535 → ⊥) → Among k xs) → h ≡ n → (k : ℕ) → k < n → get_or ls k 0 ≡ 65535
full ls n h [] t all e k b = elim (cases_eq (get_or ls k 0) 65535) [ inl q ↦ q | inr m ↦ absurd (all k b m) ]
full ls n h (x ∷ xs) t all e k b = absurd (omega (arith, t.0, t.1))

pub all-taken : (ls : List ℕ) (n h : ℕ) → Linked ls n h → h ≡ n → (k : ℕ) → k < length (taken ls n) → get_or (taken ls n) k false ≡ true
all-taken ls n h w e k b =
    let l = length_taken ls n in
    let c : k < n = omega arith in
    taken_at ls n k c ∙ eq-eqb (get_or ls k 0) 65535 (full ls n h w.free w.threads w.all e k c)

pub gave_back : (ls : List ℕ) (n h u : ℕ) → Linked ls n h → get_or (taken ls n) u false ≡ true → Gave (taken ls n) (taken (set ls u h) n) u (Ok tt)
gave_back ls n h u w e =
    let l = low ls n h w.free w.threads in
    let o = out_under ls n u e in
    (e, taken-set ls n u h w.space.2 o.0 ∙ ap (λ (v : Bool). set (taken ls n) u v) (ne_eqb h 65535 (λ q. omega (arith, w.space.1))))

-- a new chain: each unit has the next
apart_counting : (u a m : ℕ) → u < a → Apart u (range_with_len a m)
apart_counting u a zero h = tt
apart_counting u a (suc m) h = ((λ q. omega arith), apart_counting u (a + 1) m (omega arith))

among_counting : (k a m : ℕ) → a ≤ k → k < a + m → Among k (range_with_len a m)
among_counting k a zero h b = omega arith
among_counting k a (suc m) h b = elim (cases_eq k a) [ inl q ↦ inl q | inr n ↦ inr (among_counting k (a + 1) m (omega arith) (omega arith)) ]

chained-at : (ls : List ℕ) (n k : ℕ) → k < n → get_or (chained ls n) k 0 ≡ k + 1
chained-at ls n k h =
    get_or_append_left (range_with_len 1 n) (drop n ls) 0 k (omega (arith, length-range_with_len 1 n)) ∙ get_or-range_with_len 1 n k 0 h ∙ (omega arith)

length-chained : (ls : List ℕ) (n : ℕ) → n ≤ length ls → length (chained ls n) ≡ length ls
length-chained ls n h =
    let a : length (chained ls n) ≡ length (range_with_len 1 n) + length (drop n ls) = length-append (range_with_len 1 n) (drop n ls) in
    omega (arith, length-range_with_len 1 n, length-drop n ls)

threads-new : (ls : List ℕ) (n a m : ℕ) → a + m ≡ n → Threads (chained ls n) n a (range_with_len a m)
threads-new ls n a zero e = omega arith
threads-new ls n a (suc m) e =
    let P : ℕ → Type 0 = λ x. Threads (chained ls n) n x (range_with_len (a + 1) m) in
    let b : a < n = omega arith in
    (refl, b, apart_counting a (a + 1) m (omega arith), subst P (sym (chained-at ls n a b)) (threads-new ls n (a + 1) m (omega arith)))

pub new-linked : (ls : List ℕ) (n : ℕ) → Space ls n → Linked (chained ls n) n 0
new-linked ls n s = record {
  space = (s.0, s.1, omega (arith, length-chained ls n s.2, s.2));
  free = range_with_len 0 n;
  threads = threads-new ls n 0 n (omega arith);
  all = λ k b o. among_counting k 0 n (omega arith) (omega arith);
}

pub new-taken : (ls : List ℕ) (n : ℕ) → Space ls n → taken (chained ls n) n ≡ replicate n false
new-taken ls n s =
    let l = length_taken (chained ls n) n in
    ext_get_or false (taken (chained ls n) n) (replicate n false) (l ∙ sym (length-replicate n false))
    (λ k b. let c : k < n = omega arith in taken_at (chained ls n) n k c ∙ ne_eqb (get_or (chained ls n) k 0) 65535 (λ q. let z = chained-at ls n k c in omega (arith, s.1)) ∙ sym (get_or-replicate n k false false c))

-- what the loop has written: the front is linked, and the rest as it was
pub linking : (ls xs : List ℕ) (n : ℕ) → length xs ≡ n → ((k : ℕ) → k < n → get_or xs k 0 ≡ k + 1) → xs ++ drop n ls ≡ chained ls n
linking ls xs n l all =
    ap (λ (z : List ℕ). z ++ drop n ls) (ext_get_or 0 xs (range_with_len 1 n) (l ∙ sym (length-range_with_len 1 n))
    (λ k b. let e = get_or-range_with_len 1 n k 0 (omega arith) in omega (arith, all k (omega arith), e)))

-- the entry of a unit is none of what the memory holds beside the units
pub beside-set : (m : ℕ) (ls : List ℕ) (n u v : ℕ) → u < n → beside_links m (set ls u v) n ≡ beside_links m ls n
beside-set m ls n u v b = ap (λ (l : List ℕ). (m, n, l) ∷ []) (drop-set-lt n ls u v b)
