-- Deferred units are given back one by one.
use Rattle.std.proofs.Common.{◌≡◌, ℕ, ◌+◌, ◌<◌, Bool, true, false, not, ◌&&◌, Some, None, Err, List, map, length, get_or, set, count_by, sym, refl, ap, ◌∙◌, inl, inr, arith}
use Rattle.std.proofs.lemmas.List.FromFn.{length-map-range_with_len, get_or-map-range_with_len}
use Rattle.std.proofs.lemmas.List.{length-set, get_or-set_same, get_or-set_other, ext_get_or}
use Rattle.std.proofs.lemmas.Bool.{cases_eq, true≢false, and_left, and_right}
use Rattle.pool.specs.declared.allocator.Allocator.{Ghosts}
use Rattle.pool.specs.declared.allocator.AllocatorFault.{AllocatorFault}
use Rattle.pool.specs.Units.{outs, Gave}
use Rattle.pool.proofs.Outs.{within, outs_given}
use Rattle.rules.specs.Holders.{is_held, is_deferred, release}
use Rattle.rules.specs.declared.state.Holder.{Holder}
use Rattle.rules.specs.declared.state.Holder.TheVariants.{Nobody, Record, Deferred}
use Rattle.marks.specs.declared.marks.Marks.{Marks}
use Rattle.marks.specs.Held.{Held}
use Rattle.marks.specs.Sound.{GaveOne, returned, pool_of, holders_of, size_of}
use Rattle.marks.proofs.Rows.{moved-one, moved_none}
use Rattle.marks.proofs.Takes.{matching}

held-deferred : (h : Holder) → is_deferred h ≡ true → is_held h ≡ true
held-deferred Nobody e = absurd (true≢false (sym e))
held-deferred (Record v r) e = absurd (true≢false (sym e))
held-deferred (Deferred v) e = refl

release-deferred : (h : Holder) → is_deferred h ≡ true → Nobody ≡ release h
release-deferred Nobody e = refl
release-deferred (Record v r) e = absurd (true≢false (sym e))
release-deferred (Deferred v) e = refl

unreleased : (h : Holder) → is_deferred h ≡ false → release h ≡ h
unreleased Nobody e = refl
unreleased (Record v r) e = refl
unreleased (Deferred v) e = absurd (true≢false e)

length-returned : (us : List Bool) (hs : List Holder) → length (returned us hs) ≡ length us
length-returned us hs = length-map-range_with_len (λ (u : ℕ). get_or us u false && not (is_deferred (get_or hs u Nobody))) 0 (length us)

returned-at : (us : List Bool) (hs : List Holder) (k : ℕ) → k < length us → get_or (returned us hs) k false ≡ (get_or us k false && not (is_deferred (get_or hs k Nobody)))
returned-at us hs k l = get_or-map-range_with_len (λ (u : ℕ). get_or us u false && not (is_deferred (get_or hs u Nobody))) 0 (length us) k k false l (omega arith)

-- a deferred unit that is in, and nobody's, changes nothing of what will be in
returned-more : (us : List Bool) (hs : List Holder) (u : ℕ) → u < length us → is_deferred (get_or hs u Nobody) ≡ true → returned (set us u false) (set hs u Nobody) ≡ returned us hs
returned-more us hs u l d =
    let vs = set us u false in
    let ks = set hs u Nobody in
    let lv : length vs ≡ length us = length-set us u false in
    ext_get_or false (returned vs ks) (returned us hs) (length-returned vs ks ∙ lv ∙ sym (length-returned us hs))
    (λ k lk.
    let l1 : k < length vs = omega (arith, length-returned vs ks) in
    let l2 : k < length us = omega arith in
    returned-at vs ks k l1
    ∙ elim (cases_eq k u) as (λ _. (get_or vs k false && not (is_deferred (get_or ks k Nobody))) ≡ (get_or us k false && not (is_deferred (get_or hs k Nobody)))) [
      | inl q ↦
          and_left (get_or vs k false) _ (ap (λ (j : ℕ). get_or vs j false) q ∙ get_or-set_same us u false false l)
          ∙ sym (and_right (get_or us k false) _ (ap (λ (j : ℕ). not (is_deferred (get_or hs j Nobody))) q ∙ ap not d))
      | inr ne ↦
          ap (λ (b : Bool). b && not (is_deferred (get_or ks k Nobody))) (get_or-set_other us u k false false ne)
          ∙ ap (λ (x : Holder). get_or us k false && not (is_deferred x)) (get_or-set_other hs u k Nobody Nobody ne)
    ]
    ∙ sym (returned-at us hs k l2))

and_true : (b : Bool) → (b && true) ≡ b
and_true true = refl
and_true false = refl

returned-none : (us : List Bool) (hs : List Holder) → ((u : ℕ) → is_deferred (get_or hs u Nobody) ≡ false) → returned us hs ≡ us
returned-none us hs none =
    ext_get_or false (returned us hs) us (length-returned us hs)
    (λ k l. returned-at us hs k (omega (arith, length-returned us hs)) ∙ ap (λ (b : Bool). get_or us k false && not b) (none k) ∙ and_true (get_or us k false))

-- one deferred unit has come in
module _ (us : List Bool) (hs : List Holder) (u : ℕ) (held : Held us hs) (d : is_deferred (get_or hs u Nobody) ≡ true) where
  pub is_out : get_or us u false ≡ true
  is_out = held u ∙ held-deferred (get_or hs u Nobody) d

-- where the unit is out, a refusal is false
pub not_in : (us vs : List Bool) (u : ℕ) (f : AllocatorFault) → Gave us vs u (Err f) → get_or us u false ≡ true → ⊥
not_in us vs u f g e = true≢false (sym e ∙ g.1)

-- what the loop has done
pub record Returning {A : Type 0} {G : Ghosts A} (k : ℕ) (m₀ m : Marks A G) : Type 0 where
  pub rows : map release (holders_of m) ≡ map release (holders_of m₀)
  pub units : returned (G.units (pool_of m)) (holders_of m) ≡ returned (G.units (pool_of m₀)) (holders_of m₀)
  pub many : k + count_by is_deferred (holders_of m) ≡ count_by is_deferred (holders_of m₀)
  pub fewer : outs (G.units (pool_of m)) + k ≡ outs (G.units (pool_of m₀))
  pub sized : size_of m ≡ size_of m₀
  pub lent : G.lent (pool_of m) ≡ G.lent (pool_of m₀)

module _ {A : Type 0} {G : Ghosts A} (k : ℕ) (m₀ m m' : Marks A G) (w : Returning k m₀ m) (es : size_of m' ≡ size_of m) (el : G.lent (pool_of m') ≡ G.lent (pool_of m)) where
  pub returning_more : (u : ℕ) → GaveOne G.units m m' (Some u) →
      Returning (k + 1) m₀ m'
  returning_more u gave =
      let us = G.units (pool_of m) in
      let hs = holders_of m in
      let o = is_out us hs u m.held gave.0 in
      let lu : u < length us = within us u o in
      let l : u < length hs = omega (arith, matching m) in
      let one = moved-one release is_deferred hs u Nobody Nobody l (release-deferred (get_or hs u Nobody) gave.0) gave.0 refl in
      let c : count_by is_deferred (holders_of m') + 1 ≡ count_by is_deferred hs = ap (λ (x : List Holder). count_by is_deferred x + 1) gave.1 ∙ one.1 in
      record {
        rows = ap (map release) gave.1 ∙ one.0 ∙ w.rows;
        units = ap (λ (x : List Bool). returned x (holders_of m')) gave.2 ∙ ap (returned (set us u false)) gave.1 ∙ returned-more us hs u lu gave.0 ∙ w.units;
        many = omega (arith, w.many);
        fewer = omega (arith, w.fewer, ap outs gave.2, outs_given us u o);
        sized = es ∙ w.sized;
        lent = el ∙ w.lent;
      }

  pub returning_end : GaveOne G.units m m' None → (holders_of m' ≡ map release (holders_of m₀)) × (G.units (pool_of m') ≡ returned (G.units (pool_of m₀)) (holders_of m₀))
      × (k ≡ count_by is_deferred (holders_of m₀)) × (outs (G.units (pool_of m')) + k ≡ outs (G.units (pool_of m₀)))
  returning_end end =
      let o = moved_none release is_deferred Nobody unreleased (holders_of m) end.0 in
      let eu = ap G.units end.2 in (
        end.1 ∙ sym o.0 ∙ w.rows,
        eu ∙ sym (returned-none (G.units (pool_of m)) (holders_of m) end.0) ∙ w.units,
        omega (arith, w.many, o.1),
        omega (arith, w.fewer, ap outs eu),
      )
