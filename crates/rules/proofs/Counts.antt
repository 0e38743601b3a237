-- Counting the holders of units: where a record's units become deferred, where deferred ones come back, and where units are taken.
use Rattle.std.proofs.Common.{◌≡◌, ℕ, ◌+◌, ◌<◌, ◌≤◌, Bool, true, false, cond, not, ◌&&◌, List, [], ◌∷◌, map, length, get_or, sum_by, count_by, sym, refl, ap, ◌∙◌, inl, inr, arith}
use Rattle.std.specs.List.{range_with_len}
use Rattle.std.proofs.lemmas.List.FromFn.{length-map-range_with_len, get_or-map-range_with_len}
use Rattle.std.proofs.lemmas.List.{get_or_past}
use Rattle.std.proofs.lemmas.List.Sums.{sum_by-cons, get_or-le-sum_by}
use Rattle.std.proofs.lemmas.Bool.{eq-eqb, and_from, cond-true, cases_lt, true≢false, false≢true}
use Rattle.std.proofs.lemmas.Bool.Decides.{nat_tests}
use Rattle.charges.proofs.Sums.{sum_to, sum_same, sum_add, sum-none, sum_list}
use Rattle.rules.specs.declared.state.Holder.{Holder}
use Rattle.rules.specs.declared.state.Holder.TheVariants.{Nobody, Record, Deferred}
use Rattle.rules.specs.Holders.{same, count, is_held, is_deferred, defer, release, taken, handed}
use Rattle.rules.specs.Theorems.{outs, Taken, given_back}
use Rattle.std.proofs.Math.ListN.{get_or-map}

-- Sums over a list that is mapped.

pub sum_split : {X Y : Type 0} (g : Y → ℕ) (f : X → Y) (p q : X → ℕ) → ((x : X) → g (f x) ≡ p x + q x) → (xs : List X) →
    sum_by g (map f xs) ≡ sum_by p xs + sum_by q xs
sum_split g f p q e [] = refl
sum_split g f p q e (x ∷ xs) =
    let i = sum_split g f p q e xs in
    omega (arith, sum_by-cons g (f x) (map f xs), sum_by-cons p x xs, sum_by-cons q x xs, e x)

pub sum_plus : {X : Type 0} (p q : X → ℕ) (xs : List X) → sum_by (λ x. p x + q x) xs ≡ sum_by p xs + sum_by q xs
sum_plus p q [] = refl
sum_plus p q (x ∷ xs) =
    let i = sum_plus p q xs in
    omega (arith, sum_by-cons (λ x. p x + q x) x xs, sum_by-cons p x xs, sum_by-cons q x xs)

pub sum-zero : {X : Type 0} (g : X → ℕ) → ((x : X) → g x ≡ 0) → (xs : List X) → sum_by g xs ≡ 0
sum-zero g e [] = refl
sum-zero g e (x ∷ xs) = let i = sum-zero g e xs in omega (arith, sum_by-cons g x xs, e x)

-- a list by its places, past its end too
pub counted-at : {X : Type 0} (f : ℕ → X) (n u : ℕ) (d : X) → (n ≤ u → f u ≡ d) → get_or (map f (range_with_len 0 n)) u d ≡ f u
counted-at f n u d past =
    elim (cases_lt u n) [
      | inl l ↦ get_or-map-range_with_len f 0 n u u d l (omega arith)
      | inr ge ↦ get_or_past (map f (range_with_len 0 n)) u d (omega (arith, length-map-range_with_len f 0 n)) ∙ sym (past ge)
    ]

-- Single holders.

pub nobody : (h : Holder) → is_held h ≡ false → h ≡ Nobody
nobody Nobody e = refl
nobody (Record v r) e = absurd (true≢false e)
nobody (Deferred v) e = absurd (true≢false e)

pub same_self : (x : Holder) → same x x ≡ true
same_self Nobody = refl
same_self (Record v r) = and_from _ _ (eq-eqb v v refl) (eq-eqb r r refl)
same_self (Deferred v) = eq-eqb v v refl

-- who holds a unit has at least one
pub held-some : (x : Holder) (hs : List Holder) (u : ℕ) → is_held x ≡ true → get_or hs u Nobody ≡ x → 1 ≤ count x hs
held-some x hs u held-y e =
    elim (cases_lt u (length hs)) [
      | inl l ↦
          let le = get_or-le-sum_by (λ (h : Holder). cond (same x h) 1 0) hs u Nobody l in
          let is : ◌≡◌ {A = ℕ} (cond (same x (get_or hs u Nobody)) 1 0) 1 = ap {B = ℕ} (λ (h : Holder). cond (same x h) 1 0) e ∙ cond-true _ 1 0 (same_self x) in
          omega arith
      | inr ge ↦ absurd (false≢true (ap is_held (sym (get_or_past hs u Nobody ge) ∙ e) ∙ held-y))
    ]

module _ (v r : ℕ) where
  pub defer-held : (h : Holder) → is_held (defer v r h) ≡ is_held h
  defer-held Nobody = refl
  defer-held (Record w s) = grind (arith, nat_tests)
  defer-held (Deferred w) = refl

  -- the record that loses its units has none left
  defer-own : (h : Holder) → ◌≡◌ {A = ℕ} (cond (same (Record v r) (defer v r h)) 1 0) 0
  defer-own Nobody = refl
  defer-own (Record w s) = grind (arith, nat_tests)
  defer-own (Deferred w) = refl

  defer-record : (w s : ℕ) → (w ≡ v → s ≡ r → ⊥) → (h : Holder) → ◌≡◌ {A = ℕ} (cond (same (Record w s) (defer v r h)) 1 0) (cond (same (Record w s) h) 1 0 + 0)
  defer-record w s ne Nobody = refl
  defer-record w s ne (Record x y) = grind (arith, nat_tests)
  defer-record w s ne (Deferred x) = refl

  defer-volume : (h : Holder) → ◌≡◌ {A = ℕ} (cond (same (Deferred v) (defer v r h)) 1 0) (cond (same (Deferred v) h) 1 0 + cond (same (Record v r) h) 1 0)
  defer-volume Nobody = refl
  defer-volume (Record x y) = grind (arith, nat_tests)
  defer-volume (Deferred x) = grind (arith, nat_tests)

  defer_other : (w : ℕ) → (w ≡ v → ⊥) → (h : Holder) → ◌≡◌ {A = ℕ} (cond (same (Deferred w) (defer v r h)) 1 0) (cond (same (Deferred w) h) 1 0 + 0)
  defer_other w ne Nobody = refl
  defer_other w ne (Record x y) = grind (arith, nat_tests)
  defer_other w ne (Deferred x) = grind (arith, nat_tests)

  defer-all : (h : Holder) → ◌≡◌ {A = ℕ} (cond (is_deferred (defer v r h)) 1 0) (cond (is_deferred h) 1 0 + cond (same (Record v r) h) 1 0)
  defer-all Nobody = refl
  defer-all (Record x y) = grind (arith, nat_tests)
  defer-all (Deferred x) = refl

nothing : (hs : List Holder) → sum_by (λ (h : Holder). 0) hs ≡ 0
nothing hs = sum-zero (λ (h : Holder). 0) (λ h. refl) hs

-- The units of a record become deferred.
pub record DeferredUnits (v r : ℕ) (hs : List Holder) : Type 0 where
  pub own : count (Record v r) (map (defer v r) hs) ≡ 0
  pub others : (w s : ℕ) → (w ≡ v → s ≡ r → ⊥) → count (Record w s) (map (defer v r) hs) ≡ count (Record w s) hs
  pub volume : count (Deferred v) (map (defer v r) hs) ≡ count (Deferred v) hs + count (Record v r) hs
  pub other_volumes : (w : ℕ) → (w ≡ v → ⊥) → count (Deferred w) (map (defer v r) hs) ≡ count (Deferred w) hs
  pub all : count_by is_deferred (map (defer v r) hs) ≡ count_by is_deferred hs + count (Record v r) hs

pub count-defer : (v r : ℕ) (hs : List Holder) → DeferredUnits v r hs
count-defer v r hs =
    let z = nothing hs in
    record {
      own = omega (arith, sum_split (λ (h : Holder). cond (same (Record v r) h) 1 0) (defer v r) (λ (h : Holder). 0) (λ (h : Holder). 0) (λ h. omega (arith, defer-own v r h)) hs);
      others = λ w s ne. omega (arith, sum_split (λ (h : Holder). cond (same (Record w s) h) 1 0) (defer v r) (λ (h : Holder). cond (same (Record w s) h) 1 0) (λ (h : Holder). 0) (defer-record v r w s ne) hs);
      volume = sum_split (λ (h : Holder). cond (same (Deferred v) h) 1 0) (defer v r) (λ (h : Holder). cond (same (Deferred v) h) 1 0) (λ (h : Holder). cond (same (Record v r) h) 1 0) (defer-volume v r) hs;
      other_volumes = λ w ne. omega (arith, sum_split (λ (h : Holder). cond (same (Deferred w) h) 1 0) (defer v r) (λ (h : Holder). cond (same (Deferred w) h) 1 0) (λ (h : Holder). 0) (defer_other v r w ne) hs);
      all = sum_split (λ (h : Holder). cond (is_deferred h) 1 0) (defer v r) (λ (h : Holder). cond (is_deferred h) 1 0) (λ (h : Holder). cond (same (Record v r) h) 1 0) (defer-all v r) hs;
    }

-- The deferred units become nobody's.

release-record : (w s : ℕ) (h : Holder) → ◌≡◌ {A = ℕ} (cond (same (Record w s) (release h)) 1 0) (cond (same (Record w s) h) 1 0 + 0)
release-record w s Nobody = refl
release-record w s (Record x y) = omega arith
release-record w s (Deferred x) = refl

release-volume : (w : ℕ) (h : Holder) → ◌≡◌ {A = ℕ} (cond (same (Deferred w) (release h)) 1 0) (0 + 0)
release-volume w Nobody = refl
release-volume w (Record x y) = refl
release-volume w (Deferred x) = refl

release-all : (h : Holder) → ◌≡◌ {A = ℕ} (cond (is_deferred (release h)) 1 0) (0 + 0)
release-all Nobody = refl
release-all (Record x y) = refl
release-all (Deferred x) = refl

pub record ReleasedUnits (hs : List Holder) : Type 0 where
  pub records : (w s : ℕ) → count (Record w s) (map release hs) ≡ count (Record w s) hs
  pub volumes : (w : ℕ) → count (Deferred w) (map release hs) ≡ 0
  pub all : count_by is_deferred (map release hs) ≡ 0

pub count-release : (hs : List Holder) → ReleasedUnits hs
count-release hs =
    let z = nothing hs in
    record {
      records = λ w s. omega (arith, sum_split (λ (h : Holder). cond (same (Record w s) h) 1 0) release (λ (h : Holder). cond (same (Record w s) h) 1 0) (λ (h : Holder). 0) (release-record w s) hs);
      volumes = λ w. omega (arith, sum_split (λ (h : Holder). cond (same (Deferred w) h) 1 0) release (λ (h : Holder). 0) (λ (h : Holder). 0) (release-volume w) hs);
      all = omega (arith, sum_split (λ (h : Holder). cond (is_deferred h) 1 0) release (λ (h : Holder). 0) (λ (h : Holder). 0) release-all hs);
    }

-- Sums by places.

-- where the terms agree in pairs, so do the sums
sum_balance : (n : ℕ) (f g h k : ℕ → ℕ) → ((u : ℕ) → u < n → f u + g u ≡ h u + k u) → sum_to n f + sum_to n g ≡ sum_to n h + sum_to n k
sum_balance n f g h k e = sym (sum_add n f g) ∙ sum_same n (λ u. f u + g u) (λ u. h u + k u) e ∙ sum_add n h k

-- the sum over a list of a length that is known
pub sum_of : {X : Type 0} (f : X → ℕ) (xs : List X) (d : X) (n : ℕ) → length xs ≡ n → sum_to n (λ u. f (get_or xs u d)) ≡ sum_by f xs
sum_of f xs d n e = ap (λ (m : ℕ). sum_to m (λ u. f (get_or xs u d))) (sym e) ∙ sum_list f xs d

-- Units given back: those out that are deferred come in.

pub length_back : (us : List Bool) (hs : List Holder) → length (given_back us hs) ≡ length us
unfolding given_back
length_back us hs = length-map-range_with_len (λ u. get_or us u false && not (is_deferred (get_or hs u Nobody))) 0 (length us)

pub back_at : (us : List Bool) (hs : List Holder) (u : ℕ) → get_or (given_back us hs) u false ≡ (get_or us u false && not (is_deferred (get_or hs u Nobody)))
unfolding given_back
back_at us hs u =
    counted-at (λ u. get_or us u false && not (is_deferred (get_or hs u Nobody))) (length us) u false
    (λ ge. ap (λ (b : Bool). b && not (is_deferred (get_or hs u Nobody))) (get_or_past us u false ge))

back_held : (a : Bool) (h : Holder) → a ≡ is_held h → (a && not (is_deferred h)) ≡ is_held (release h)
back_held a Nobody e = rw e refl
back_held a (Record v r) e = rw e refl
back_held a (Deferred v) e = rw e refl

back_one : (a : Bool) (h : Holder) → a ≡ is_held h → ◌≡◌ {A = ℕ} (cond (a && not (is_deferred h)) 1 0 + cond (is_deferred h) 1 0) (cond a 1 0 + 0)
back_one a Nobody e = rw e refl
back_one a (Record v r) e = rw e refl
back_one a (Deferred v) e = rw e refl

module _ (us : List Bool) (hs : List Holder) (long : length hs ≡ length us) (held : (u : ℕ) → get_or us u false ≡ is_held (get_or hs u Nobody)) where
  pub back_is-held : (u : ℕ) → get_or (given_back us hs) u false ≡ is_held (get_or (map release hs) u Nobody)
  back_is-held u =
      back_at us hs u ∙ back_held (get_or us u false) (get_or hs u Nobody) (held u) ∙ sym (ap is_held (get_or-map release hs u Nobody))

  pub outs_back : outs (given_back us hs) + count_by is_deferred hs ≡ outs us
  outs_back =
      let n = length us in
      let one : Bool → ℕ = λ b. cond b 1 0 in
      omega (
        arith,
        sum_balance n (λ u. one (get_or (given_back us hs) u false)) (λ u. one (is_deferred (get_or hs u Nobody))) (λ u. one (get_or us u false)) (λ u. 0)
            (λ u l. ap (λ (b : Bool). one b + one (is_deferred (get_or hs u Nobody))) (back_at us hs u) ∙ back_one (get_or us u false) (get_or hs u Nobody) (held u)),
        sum_of one (given_back us hs) false n (length_back us hs),
        sum_of (λ h. one (is_deferred h)) hs Nobody n long,
        sum_of one us false n refl,
        sum-none n,
      )

-- Units taken: those that went out are the taker's.

taken-held : (y : Holder) (a c : Bool) (h : Holder) → is_held y ≡ true → a ≡ is_held h → (a ≡ true → c ≡ true) → c ≡ is_held (taken y a c h)
taken-held y true true h held-y e stay = e
taken-held y true false h held-y e stay = absurd (false≢true (stay refl))
taken-held y false true h held-y e stay = sym held-y
taken-held y false false h held-y e stay = e

-- so many units, if they count
abbrev part : Bool → ℕ → ℕ
part b n = cond b n 0

part_add : (b : Bool) (m n : ℕ) → part b (m + n) ≡ part b m + part b n
part_add true m n = refl
part_add false m n = refl

part-one : (b : Bool) → ◌≡◌ {A = ℕ} (cond b 1 0 + part b 0) (0 + part b 1)
part-one true = refl
part-one false = refl

sum-part : (b : Bool) (n : ℕ) (f : ℕ → ℕ) → sum_to n (λ u. part b (f u)) ≡ part b (sum_to n f)
sum-part true n f = refl
sum-part false n f = sum-none n

taken-one : (y : Holder) (p : Holder → Bool) (a c : Bool) (h : Holder) → p Nobody ≡ false → a ≡ is_held h → (a ≡ true → c ≡ true) →
    ◌≡◌ {A = ℕ} (cond (p (taken y a c h)) 1 0 + part (p y) (cond a 1 0)) (cond (p h) 1 0 + part (p y) (cond c 1 0))
taken-one y p true true h none e stay = refl
taken-one y p true false h none e stay = absurd (false≢true (stay refl))
taken-one y p false true h none e stay = rw (nobody h (sym e), none) (part-one (p y))
taken-one y p false false h none e stay = refl

pub length-handed : (y : Holder) (us vs : List Bool) (hs : List Holder) → length (handed y us vs hs) ≡ length hs
unfolding handed
length-handed y us vs hs = length-map-range_with_len (λ u. taken y (get_or us u false) (get_or vs u false) (get_or hs u Nobody)) 0 (length hs)

module _ (y : Holder) (n : ℕ) (us vs : List Bool) (hs : List Holder) (long : length hs ≡ length us) (move : Taken n us vs)
    (held : (u : ℕ) → get_or us u false ≡ is_held (get_or hs u Nobody)) where
  pub handed-at : (u : ℕ) → get_or (handed y us vs hs) u Nobody ≡ taken y (get_or us u false) (get_or vs u false) (get_or hs u Nobody)
  unfolding handed
  handed-at u =
      counted-at (λ u. taken y (get_or us u false) (get_or vs u false) (get_or hs u Nobody)) (length hs) u Nobody
      (λ ge. rw (get_or_past hs u Nobody ge, get_or_past us u false (omega arith), get_or_past vs u false (omega (arith, move.as_many))) refl)

  pub handed-held : is_held y ≡ true → (u : ℕ) → get_or vs u false ≡ is_held (get_or (handed y us vs hs) u Nobody)
  handed-held held-y u =
      taken-held y (get_or us u false) (get_or vs u false) (get_or hs u Nobody) held-y (held u) (move.stay_out u) ∙ sym (ap is_held (handed-at u))

  pub count-handed : (p : Holder → Bool) → p Nobody ≡ false → count_by p (handed y us vs hs) ≡ count_by p hs + cond (p y) n 0
  count-handed p none =
      let m = length us in
      let one : Bool → ℕ = λ b. cond b 1 0 in
      let before = sum-part (p y) m (λ u. one (get_or us u false)) ∙ ap (part (p y)) (sum_of one us false m refl) in
      let after = sum-part (p y) m (λ u. one (get_or vs u false)) ∙ ap (part (p y)) (sum_of one vs false m move.as_many ∙ move.counted) in
      omega (
        arith,
        sum_balance m (λ u. one (p (get_or (handed y us vs hs) u Nobody))) (λ u. part (p y) (one (get_or us u false))) (λ u. one (p (get_or hs u Nobody)))
            (λ u. part (p y) (one (get_or vs u false)))
            (λ u l. ap (λ (h : Holder). one (p h) + part (p y) (one (get_or us u false))) (handed-at u) ∙
            taken-one y p (get_or us u false) (get_or vs u false) (get_or hs u Nobody) none (held u) (move.stay_out u)),
        sum_of (λ h. one (p h)) (handed y us vs hs) Nobody m (length-handed y us vs hs ∙ long),
        sum_of (λ h. one (p h)) hs Nobody m long,
        before,
        after,
        part_add (p y) (outs us) n,
      )
