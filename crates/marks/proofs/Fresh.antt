-- The marks of a pool that has every unit in.
use Rattle.std.proofs.Common.{◌≡◌, ℕ, zero, suc, ◌+◌, ◌*◌, ◌<◌, ◌≤◌, Bool, false, List, [], ◌∷◌, map, length, get_or, take, replicate, sym, refl, ap, ◌∙◌, subst, arith}
use Rattle.std.proofs.lemmas.List.{length-replicate, get_or-replicate, take-replicate}
use Rattle.std.proofs.lemmas.Bool.{true≢false}
use Rattle.rules.specs.Holders.{same, is_deferred}
use Rattle.rules.specs.declared.state.Holder.{Holder}
use Rattle.rules.specs.declared.state.Holder.TheVariants.{Nobody, Record}
use Rattle.marks.specs.Linked.{Named, Chained, Linked}
use Rattle.marks.specs.declared.unit.Unit.{Unit}
use Rattle.marks.specs.Units.{holders_in, nexts_in}

map-replicate : {X Y : Type 0} (f : X → Y) (n : ℕ) (x : X) → map f (replicate n x) ≡ replicate n (f x)
map-replicate f zero x = refl
map-replicate {Y = Y} f (suc n) x = ap (λ (ys : List Y). f x ∷ ys) (map-replicate f n x)

all_same : {X : Type 0} (n u : ℕ) (x : X) → get_or (replicate n x) u x ≡ x
all_same zero u x = refl
all_same (suc n) zero x = refl
all_same (suc n) (suc u) x = all_same n u x

-- so many units, and none out
pub all_in : (us : List Bool) (n : ℕ) → us ≡ replicate n false → us ≡ replicate (length us) false
all_in us n e = e ∙ ap (λ (k : ℕ). replicate k false) (sym (ap length e ∙ length-replicate n false))

-- a holder with no unit
empty : (n : ℕ) (hs : List Holder) (next : List ℕ) (h : ℕ) (p : Holder → Bool) → h ≡ n → p Nobody ≡ false → ((u : ℕ) → get_or hs u Nobody ≡ Nobody) → Chained n hs next h p
empty n hs next h p e f none =
    record {
      units = [];
      threads = e;
      own = λ u m. absurd m;
      all = λ u t. true≢false (sym t ∙ ap p (none u) ∙ f);
    }

fresh-linked : (n : ℕ) (hs : List Holder) (next first : List ℕ) (d : ℕ) → length hs ≡ n → length next ≡ 4096 → length first ≡ 4096 →
    ((u : ℕ) → get_or hs u Nobody ≡ Nobody) → ((k : ℕ) → k < 4096 → get_or first k 0 ≡ n) → d ≡ n → Linked n hs next first d
fresh-linked n hs next first d long wide heads none firsts e =
    record {
      long = long;
      wide = wide;
      heads = heads;
      named = λ u. subst Named (sym (none u)) tt;
      records = λ v r lv lr. empty n hs next _ (same (Record v r)) (firsts (v * 64 + r) (omega arith)) refl none;
      deferred = empty n hs next d is_deferred e refl none;
    }

-- the rows and the lists of a table that is made for n units
module _ (n : ℕ) (few : n ≤ 4096) where
  abbrev pub made : List Unit
  made = replicate 4096 (record { holder = Nobody; next = 0 })

  pub fresh-rows : take n (holders_in made) ≡ replicate n Nobody
  fresh-rows = ap (take n) (map-replicate (λ (x : Unit). x.holder) 4096 (record { holder = Nobody; next = 0 })) ∙ take-replicate n 4096 Nobody few

  pub fresh : Linked n (take n (holders_in made)) (nexts_in made) (replicate 4096 n) n
  fresh =
      rw (fresh-rows, map-replicate (λ (x : Unit). x.next) 4096 (record { holder = Nobody; next = 0 }))
      (fresh-linked n (replicate n Nobody) (replicate 4096 0) (replicate 4096 n) n (length-replicate n Nobody) (length-replicate {A = ℕ} 4096 0) (length-replicate 4096 n)
      (λ u. all_same n u Nobody) (λ k b. get_or-replicate 4096 k n 0 b) refl)
