-- What the calls of a table do to its rows, and that they keep it well made.
use Rattle.std.proofs.Common.{◌≡◌, ℕ, ◌+◌, ◌*◌, ◌<◌, true, false, Some, None, List, map, length, get_or, take, set, sym, refl, ap, ◌∙◌, subst, inl, inr, arith}
use Rattle.std.proofs.lemmas.List.{map-set, set-get_or}
use Rattle.std.proofs.lemmas.Bool.{cases_Bool, cond-true, cond-false}
use Rattle.rules.specs.Holders.{same, count, is_deferred, defer}
use Rattle.rules.specs.declared.state.Holder.{Holder}
use Rattle.rules.specs.declared.state.Holder.TheVariants.{Nobody, Record, Deferred}
use Rattle.marks.specs.declared.table.Table.{Table}
use Rattle.marks.specs.declared.unit.Unit.{Unit}
use Rattle.marks.specs.Linked.{Named, Linked}
use Rattle.marks.specs.Tabled.{rows_of, Shifted}
use Rattle.marks.specs.Units.{holders_in, nexts_in}
use Rattle.marks.proofs.Chains.{head_own, none-own}
use Rattle.marks.proofs.Moves.{same_self, same_true, to_record, record_head, to_deferred, to_nobody}
use Rattle.marks.proofs.Rows.{map_at, take_set_at, moved-one, moved_none}

-- the entry `a` of a unit, and the entry `i` of a record's head
module _ (t : Table) (a : ℕ) where
  pub rows-set : (u : ℕ) (x : Unit) → a ≡ u → take t.size (holders_in (set t.units a x)) ≡ set (rows_of t) u x.holder
  rows-set u x e =
      ap (λ (k : ℕ). take t.size (holders_in (set t.units k x))) e ∙ ap (take t.size) (map-set (λ (y : Unit). y.holder) t.units u x)
      ∙ take_set_at t.size (holders_in t.units) u x.holder

  nexts-set : (u : ℕ) (x : Unit) → a ≡ u → nexts_in (set t.units a x) ≡ set (nexts_in t.units) u x.next
  nexts-set u x e = ap (λ (k : ℕ). nexts_in (set t.units k x)) e ∙ map-set (λ (y : Unit). y.next) t.units u x

  -- a unit goes to a record
  pub marked : (u v r i : ℕ) → a ≡ u → i ≡ v * 64 + r → (u < t.size) × (get_or (rows_of t) u Nobody ≡ Nobody) → (v < 64) × (r < 64) →
      let x : Unit = record { holder = Record v r; next = get_or t.first i 0 } in
      Linked t.size (take t.size (holders_in (set t.units a x))) (nexts_in (set t.units a x)) (set t.first i u) t.deferred
  marked u v r i e f free named =
      let x : Unit = record { holder = Record v r; next = get_or t.first i 0 } in
      rw (rows-set u x e, nexts-set u x e, f) (to_record t.size (rows_of t) (nexts_in t.units) t.first t.deferred t.linked t.small u v r free.0 free.1 named.0 named.1)

  -- the next of a unit, in the column
  next_at : (d : Unit) → d.next ≡ 0 → get_or (nexts_in t.units) a 0 ≡ (get_or t.units a d).next
  next_at d e = ap (get_or (nexts_in t.units) a) (sym e) ∙ map_at (λ (x : Unit). x.next) t.units a d

  -- the unit at the head of the deferred goes to nobody
  pub released : (d : Unit) → d.next ≡ 0 → a ≡ t.deferred → (t.deferred ≡ t.size → ⊥) →
      let x : Unit = record { holder = Nobody; next = (get_or t.units a d).next } in
      Linked t.size (take t.size (holders_in (set t.units a x))) (nexts_in (set t.units a x)) t.first (get_or t.units a d).next
  released d z e ne =
      let x : Unit = record { holder = Nobody; next = (get_or t.units a d).next } in
      let same_nexts : nexts_in (set t.units a x) ≡ nexts_in t.units =
      nexts-set a x refl ∙ ap (set (nexts_in t.units) a) (sym (next_at d z)) ∙ set-get_or (nexts_in t.units) a 0 in
      rw (rows-set t.deferred x e, same_nexts, sym (next_at d z), e) (to_nobody t.size (rows_of t) (nexts_in t.units) t.first t.deferred t.linked t.small ne)

  -- the unit at the head of a record is deferred
  pub shifted : (u v r i : ℕ) (d : Unit) → d.next ≡ 0 → a ≡ u → i ≡ v * 64 + r → u ≡ get_or t.first i 0 → (v < 64) × (r < 64) → (u ≡ t.size → ⊥) →
      let x : Unit = record { holder = Deferred v; next = t.deferred } in
      Linked t.size (take t.size (holders_in (set t.units a x))) (nexts_in (set t.units a x)) (set t.first i (get_or t.units a d).next) u
  shifted u v r i d z e f h named ne =
      let x : Unit = record { holder = Deferred v; next = t.deferred } in
      let q : u ≡ get_or t.first (v * 64 + r) 0 = h ∙ ap (λ (k : ℕ). get_or t.first k 0) f in
      rw (rows-set u x e, nexts-set u x e, sym (next_at d z), e, f, q) (to_deferred t.size (rows_of t) (nexts_in t.units) t.first t.deferred t.linked t.small v r named.0 named.1 (λ y. ne (q ∙ y)))

pub head_deferred : (t : Table) → (t.deferred ≡ t.size → ⊥) → (t.deferred < t.size) × (is_deferred (get_or (rows_of t) t.deferred Nobody) ≡ true)
head_deferred t ne = head_own t.size (rows_of t) (nexts_in t.units) is_deferred t.deferred t.linked.deferred ne

pub deferred_fits : (t : Table) (a : ℕ) → a ≡ t.deferred → (t.deferred ≡ t.size → ⊥) → a < 4096
deferred_fits t a e ne = let h = head_deferred t ne in omega (arith, h.0, t.small)

pub none_deferred : (t : Table) → t.deferred ≡ t.size → (u : ℕ) → is_deferred (get_or (rows_of t) u Nobody) ≡ false
none_deferred t e = none-own t.size (rows_of t) (nexts_in t.units) is_deferred t.deferred t.linked.deferred e

module _ (t : Table) (u v r i : ℕ) (h : u ≡ get_or t.first i 0) (f : i ≡ v * 64 + r) (named : (v < 64) × (r < 64)) where
  head : u ≡ get_or t.first (v * 64 + r) 0
  head = h ∙ ap (λ (k : ℕ). get_or t.first k 0) f

  pub head_of : (u ≡ t.size → ⊥) → (u < t.size) × (get_or (rows_of t) u Nobody ≡ Record v r)
  head_of ne = rw head (record_head t.size (rows_of t) (nexts_in t.units) t.first t.deferred t.linked t.small v r named.0 named.1 (λ z. ne (head ∙ z)))

  pub head_fits : (a : ℕ) → a ≡ u → (u ≡ t.size → ⊥) → a < 4096
  head_fits a e ne = let o = head_of ne in omega (arith, o.0, t.small)

  pub none_of : u ≡ t.size → (k : ℕ) → same (Record v r) (get_or (rows_of t) k Nobody) ≡ false
  none_of e = none-own t.size (rows_of t) (nexts_in t.units) (same (Record v r)) _ (t.linked.records v r named.0 named.1) (sym head ∙ e)

-- a record's units are deferred one by one
pub record Deferring (v r k : ℕ) (t₀ t : Table) : Type 0 where
  pub rows : map (defer v r) (rows_of t) ≡ map (defer v r) (rows_of t₀)
  pub many : k + count (Record v r) (rows_of t) ≡ count (Record v r) (rows_of t₀)
  pub sized : t.size ≡ t₀.size

pub deferring_more : (v r k u : ℕ) (t₀ t t' : Table) → Deferring v r k t₀ t → Shifted v r t t' (Some u) → t'.size ≡ t.size →
    Deferring v r (k + 1) t₀ t'
deferring_more v r k u t₀ t t' w s es =
    let inside : u < length (rows_of t) = omega (arith, t.linked.long, s.0) in
    let becomes : defer v r (get_or (rows_of t) u Nobody) ≡ Deferred v = ap (defer v r) s.1 ∙ cond-true _ (Deferred v) (Record v r) (same_self v r) in
    let was : same (Record v r) (get_or (rows_of t) u Nobody) ≡ true = ap (same (Record v r)) s.1 ∙ same_self v r in
    let m = moved-one (defer v r) (same (Record v r)) (rows_of t) u (Deferred v) Nobody inside (sym becomes) was refl in
    let c : count (Record v r) (rows_of t') + 1 ≡ count (Record v r) (rows_of t) = ap (λ (l : List Holder). count (Record v r) l + 1) s.2 ∙ m.1 in
    record {
      rows = ap (map (defer v r)) s.2 ∙ m.0 ∙ w.rows;
      many = omega (arith, w.many);
      sized = es ∙ w.sized;
    }

undeferred : (v r : ℕ) (h : Holder) → same (Record v r) h ≡ false → defer v r h ≡ h
undeferred v r h e = cond-false (same (Record v r) h) (Deferred v) h e

pub deferring_end : (v r k : ℕ) (t₀ t t' : Table) → Deferring v r k t₀ t → Shifted v r t t' None →
    (rows_of t' ≡ map (defer v r) (rows_of t₀)) × (k ≡ count (Record v r) (rows_of t₀)) × (t'.size ≡ t₀.size)
deferring_end v r k t₀ t t' d end =
    let m = moved_none (defer v r) (same (Record v r)) Nobody (undeferred v r) (rows_of t) end.0 in
    (ap rows_of end.1 ∙ sym m.0 ∙ d.rows, omega (arith, d.many, m.1), ap (λ (x : Table). x.size) end.1 ∙ d.sized)

-- no unit is one of a record that the table has no place for
unnamed : (v r : ℕ) (h : Holder) → Named h → (v < 64 → r < 64 → ⊥) → same (Record v r) h ≡ false
unnamed v r h n f =
    elim (cases_Bool (same (Record v r) h)) [
      | inl y ↦ let m : Named (Record v r) = subst Named (same_true v r h y) n in absurd (f m.0 m.1)
      | inr e ↦ e
    ]

pub deferring_none : (v r : ℕ) (t : Table) → (v < 64 → r < 64 → ⊥) → (rows_of t ≡ map (defer v r) (rows_of t)) × (0 ≡ count (Record v r) (rows_of t))
deferring_none v r t f =
    let m = moved_none (defer v r) (same (Record v r)) Nobody (undeferred v r) (rows_of t) (λ u. unnamed v r (get_or (rows_of t) u Nobody) (t.linked.named u) f) in
    (sym m.0, sym m.1)
