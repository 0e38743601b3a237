-- Units are taken one by one for a record.
use Rattle.std.proofs.Common.{◌≡◌, ℕ, ◌+◌, ◌<◌, ◌≤◌, Bool, true, false, cond, ◌&&◌, ltb, leb, List, length, get_or, set, Ok, Err, count_by, sym, refl, ap, ◌∙◌, inl, inr, arith}
use Rattle.std.proofs.lemmas.List.FromFn.{length-map-range_with_len, get_or-map-range_with_len}
use Rattle.std.proofs.lemmas.List.{length-map, length-set, get_or-set_same, get_or-set_other, ext_get_or}
use Rattle.std.proofs.lemmas.List.Sums.{sum_by-set}
use Rattle.std.proofs.lemmas.Bool.{cases_eq, true≢false, cond-true, and_from, lt-ltb, le-leb}
use Rattle.pool.specs.declared.allocator.Allocator.{Ghosts}
use Rattle.pool.specs.declared.allocator.AllocatorFault.{AllocatorFault}
use Rattle.pool.specs.Units.{outs, Took}
use Rattle.pool.proofs.Outs.{took-length, outs-taken, outs-all}
use Rattle.rules.specs.Holders.{is_held, taken, handed}
use Rattle.rules.specs.declared.state.Holder.{Holder}
use Rattle.rules.specs.declared.state.Holder.TheVariants.{Nobody, Record, Deferred}
use Rattle.marks.specs.declared.fault.MarksFault.TheVariants.{NoSuchRecord, AllOut}
use Rattle.marks.specs.declared.marks.Marks.{Marks}
use Rattle.marks.specs.declared.unit.Unit.{Unit}
use Rattle.marks.specs.Held.{Held}
use Rattle.marks.specs.Sound.{Sound, TookFor, Grew, take_answer, pool_of, holders_of, size_of}

pub nobody : (h : Holder) → is_held h ≡ false → h ≡ Nobody
nobody Nobody e = refl
nobody (Record v r) e = absurd (true≢false e)
nobody (Deferred v) e = absurd (true≢false e)

length-handed : (h : Holder) (us vs : List Bool) (hs : List Holder) → length (handed h us vs hs) ≡ length hs
unfolding handed
length-handed h us vs hs = length-map-range_with_len (λ (u : ℕ). taken h (get_or us u false) (get_or vs u false) (get_or hs u Nobody)) 0 (length hs)

handed-at : (h : Holder) (us vs : List Bool) (hs : List Holder) (k : ℕ) → k < length hs → get_or (handed h us vs hs) k Nobody ≡ taken h (get_or us k false) (get_or vs k false) (get_or hs k Nobody)
unfolding handed
handed-at h us vs hs k l = get_or-map-range_with_len (λ (u : ℕ). taken h (get_or us u false) (get_or vs u false) (get_or hs u Nobody)) 0 (length hs) k k Nobody l (omega arith)

taken_none : (h : Holder) (b : Bool) (x : Holder) → x ≡ taken h b b x
taken_none h true x = refl
taken_none h false x = refl

taken-new : (h : Holder) (a b : Bool) (x : Holder) → a ≡ false → b ≡ true → taken h a b x ≡ h
taken-new h a b x ea eb = rw (ea, eb) refl

was_in : (a b : Bool) → (a ≡ true → b ≡ true) → b ≡ false → a ≡ false
was_in true b f e = absurd (true≢false (sym (f refl) ∙ e))
was_in false b f e = refl

cond_more : (b : Bool) (n : ℕ) → ◌≡◌ {A = ℕ} (cond b (n + 1) 0) (cond b n 0 + cond b 1 0)
cond_more true n = refl
cond_more false n = refl

cond-none : (b : Bool) → ◌≡◌ {A = ℕ} (cond b 0 0) 0
cond-none true = refl
cond-none false = refl

pub took-none : (h : Holder) (us : List Bool) (hs : List Holder) → TookFor h 0 us us hs hs × Grew h 0 hs hs
took-none h us hs = (
  record {
    long = refl;
    stays = λ u e. e;
    more = omega arith;
    marks = ext_get_or Nobody hs (handed h us us hs) (sym (length-handed h us us hs)) (λ k l. taken_none h (get_or us k false) (get_or hs k Nobody) ∙ sym (handed-at h us us hs k l));
  },
  (λ p e. omega (arith, cond-none (p h))),
)

module _ (h : Holder) (n u : ℕ) (us vs ws : List Bool) (hs ks ls : List Holder) (w : TookFor h n us vs hs ks) (long : length us ≡ length hs) (t : Took vs ws (Ok u)) (e : ls ≡ set ks u h) where
  here : get_or ws u false ≡ true
  here = ap (λ (x : List Bool). get_or x u false) t.2 ∙ get_or-set_same vs u true false t.0

  there : (k : ℕ) → (k ≡ u → ⊥) → get_or ws k false ≡ get_or vs k false
  there k ne = ap (λ (x : List Bool). get_or x k false) t.2 ∙ get_or-set_other vs u k true false ne

  same-long : length ks ≡ length hs
  same-long = ap length w.marks ∙ length-handed h us vs hs

  at : (k : ℕ) → k < length (set ks u h) → get_or (set ks u h) k Nobody ≡ get_or (handed h us ws hs) k Nobody
  at k l =
      let l2 : k < length hs = omega (arith, length-set ks u h, same-long) in
      elim (cases_eq k u) [
        | inl q ↦
            let l1 : u < length ks = omega (arith, length-set ks u h) in
            ap (λ (j : ℕ). get_or (set ks u h) j Nobody) q ∙ get_or-set_same ks u h Nobody l1
            ∙ sym (handed-at h us ws hs k l2 ∙ taken-new h _ _ _ (ap (λ (j : ℕ). get_or us j false) q ∙ was_in (get_or us u false) (get_or vs u false) (w.stays u) t.1) (ap (λ (j : ℕ). get_or ws j false) q ∙ here))
        | inr ne ↦
            get_or-set_other ks u k h Nobody ne ∙ ap (λ (x : List Holder). get_or x k Nobody) w.marks ∙ handed-at h us vs hs k l2
            ∙ ap (λ (b : Bool). taken h (get_or us k false) b (get_or hs k Nobody)) (sym (there k ne)) ∙ sym (handed-at h us ws hs k l2)
      ]

  pub took_more : TookFor h (n + 1) us ws hs ls
  took_more =
      record {
        long = took-length vs ws (Ok u) t ∙ w.long;
        stays = λ k o. elim (cases_eq k u) [ inl q ↦ ap (λ (j : ℕ). get_or ws j false) q ∙ here | inr ne ↦ there k ne ∙ w.stays k o ];
        more = omega (arith, ap outs t.2, outs-taken vs u t.0 t.1, w.more);
        marks = e ∙ ext_get_or Nobody (set ks u h) (handed h us ws hs) (length-set ks u h ∙ same-long ∙ sym (length-handed h us ws hs)) at;
      }

  pub grew-more : Grew h n hs ks → get_or ks u Nobody ≡ Nobody → u < length ks → Grew h (n + 1) hs ls
  grew-more g free l =
      λ p z.
      let c : count_by p (set ks u h) + cond (p (get_or ks u Nobody)) 1 0 ≡ count_by p ks + cond (p h) 1 0 = sum_by-set (λ (x : Holder). cond (p x) 1 0) ks u h Nobody l in
      let q : ◌≡◌ {A = ℕ} (cond (p (get_or ks u Nobody)) 1 0) 0 = ap {B = ℕ} (λ (b : Bool). cond b 1 0) (ap p free ∙ z) in
      let a : count_by p ls ≡ count_by p (set ks u h) = ap (count_by p) e in
      omega (arith, g p z, cond_more (p h) n)

-- one unit has gone out, to the record
module _ (us vs : List Bool) (hs : List Holder) (u : ℕ) (held : Held us hs) (t : Took us vs (Ok u)) where
  pub free-row : get_or hs u Nobody ≡ Nobody
  free-row = nobody (get_or hs u Nobody) (sym (held u) ∙ t.1)

-- as many units as holders
pub matching : {A : Type 0} {G : Ghosts A} (m : Marks A G) → length (G.units (pool_of m)) ≡ length (holders_of m)
matching m = m.sized ∙ sym m.table.linked.long

-- what every value of the marks' type is
pub marks_sound : {A : Type 0} {G : Ghosts A} (m : Marks A G) → Sound G.units m
marks_sound m =
    record {
      sized = m.sized;
      long = m.table.linked.long;
      held = m.held;
      counted = m.counted;
      tabled = record { small = m.table.small; whole = sym (length-map m.table.units (λ (u : Unit). u.next)) ∙ m.table.linked.wide; linked = m.table.linked };
    }

-- what the loop has done
pub record Taking {A : Type 0} {G : Ghosts A} (v r i : ℕ) (m₀ m : Marks A G) : Type 0 where
  pub took : TookFor (Record v r) i (G.units (pool_of m₀)) (G.units (pool_of m)) (holders_of m₀) (holders_of m)
  pub grew : Grew (Record v r) i (holders_of m₀) (holders_of m)
  pub sized : size_of m ≡ size_of m₀
  pub lent : G.lent (pool_of m) ≡ G.lent (pool_of m₀)

pub taking-start : {A : Type 0} {G : Ghosts A} (v r : ℕ) (m : Marks A G) → Taking v r 0 m m
taking-start {G = G} v r m =
    let t = took-none (Record v r) (G.units (pool_of m)) (holders_of m) in
    record { took = t.0; grew = t.1; sized = refl; lent = refl }

pub taking-more : {A : Type 0} {G : Ghosts A} (v r i u : ℕ) (m₀ m m' : Marks A G) → Taking v r i m₀ m →
    Took (G.units (pool_of m)) (G.units (pool_of m')) (Ok u) → holders_of m' ≡ set (holders_of m) u (Record v r) → size_of m' ≡ size_of m → G.lent (pool_of m') ≡ G.lent (pool_of m) → Taking v r (i + 1) m₀ m'
taking-more {G = G} v r i u m₀ m m' w t e es el =
    let x : u < length (holders_of m) = omega (arith, t.0, matching m) in
    record {
      took = took_more (Record v r) i u (G.units (pool_of m₀)) (G.units (pool_of m)) (G.units (pool_of m')) (holders_of m₀) (holders_of m) (holders_of m') w.took (matching m₀) t e;
      grew = grew-more (Record v r) i u (G.units (pool_of m₀)) (G.units (pool_of m)) (G.units (pool_of m')) (holders_of m₀) (holders_of m) (holders_of m') w.took (matching m₀) t e w.grew (free-row (G.units (pool_of m)) (G.units (pool_of m')) (holders_of m) u m.held t) x;
      sized = es ∙ w.sized;
      lent = el ∙ w.lent;
    }

-- where a unit is in, a refusal is false
pub not_full : (us vs : List Bool) (f : AllocatorFault) → Took us vs (Err f) → outs us < length us → ⊥
not_full us vs f t l = omega (arith, outs-all us t.1)

-- what `take` answers
module _ (v r n : ℕ) (us : List Bool) where
  within : v < 64 → r < 64 → take_answer v r n us ≡ cond (leb (outs us + n) (length us)) (Ok tt) (Err AllOut)
  within lv lr = cond-true (ltb v 64 && ltb r 64) _ (Err (NoSuchRecord v r)) (and_from (ltb v 64) (ltb r 64) (lt-ltb v 64 lv) (lt-ltb r 64 lr))

  pub answer_ok : v < 64 → r < 64 → outs us + n ≤ length us → Ok tt ≡ take_answer v r n us
  answer_ok lv lr l = sym (within lv lr ∙ cond-true _ (Ok tt) (Err AllOut) (le-leb (outs us + n) (length us) l))
