-- What a run on a new ledger comes to.
use Rattle.std.proofs.Common.{◌≡◌, ℕ, ◌+◌, ◌<◌, ◌≤◌, Bool, false, List, [], ◌++◌, length, get_or, replicate, Ok, sym, ap, ◌∙◌, subst, arith}
use Rattle.std.proofs.lemmas.List.{append-nil, get_or-replicate, length-replicate, replicate-append-replicate}
use Rattle.std.proofs.lemmas.Bool.{cond-true, cond-false, lt-ltb}
use Rattle.pool.specs.declared.allocator.Allocator.{Ghosts as AllocatorMembers}
use Rattle.costs.specs.declared.policy.CostPolicy.{Ghosts as PolicyMembers}
use Rattle.costs.specs.Costs.{largest, copies_cost, parity_cost}
use Rattle.orders.specs.Layout.{laid}
use Rattle.rules.specs.Figures.{Figures}
use Rattle.rules.specs.Book.{Book, fresh}
use Rattle.rules.specs.Standing.{Standing}
use Rattle.rules.specs.Served.{bytes_of, book_then, exchanges}
use Rattle.ledger.specs.declared.Ledger.{Ledger}
use Rattle.ledger.specs.Parts.{book_of, holders_of, units_of, figures, Stands}
use Rattle.ledger.specs.Makes.{Made, any_out, check_answer}
use Rattle.ledger.specs.Serves.{Through, planned}
use Rattle.ledger.proofs.Outs.{none_out}
use Rattle.ledger.proofs.Serving.{planned-is}
use Rattle.runner.specs.declared.ended.Ended.{Ended}
use Rattle.runner.specs.Runs.{Ran as Run, ran, exchanges_in, end_of}
use Rattle.setup.specs.declared.scheme.Scheme.{Scheme}
use Rattle.setup.specs.declared.scheme.Scheme.TheVariants.{Copies, Parity}
use Rattle.setup.specs.Schemes.{plan}
use Rattle.setup.specs.Setups.{RunWith, Ran}

module _ {A P : Type 0} {gA : AllocatorMembers A} {gP : PolicyMembers P} where
  pub run_with : (l₁ l : Ledger A P gA gP) (pool : A) (policy : P) (slop : ℕ) (s out after : List ℕ) (e : Ended) → Made pool policy slop l₁ → Stands (figures l₁) l₁ [] →
      e ≡ end_of (ran (figures l₁) s (length out) (book_of l₁)) → after ≡ laid out 0 (bytes_of (exchanges_in (ran (figures l₁) s (length out) (book_of l₁)))) → e.written ≤ length out →
      Through l₁ l (exchanges_in (ran (figures l₁) s (length out) (book_of l₁))) →
      RunWith (planned gP (gA.units pool) policy slop) s out after (units_of l) e
  run_with l₁ l pool policy slop s out after e made stands ended bytes within t =
      let F = planned gP (gA.units pool) policy slop in
      let is : figures l₁ ≡ F = planned-is l₁ pool policy slop made in
      let same : ran (figures l₁) s (length out) (book_of l₁) ≡ ran F s (length out) fresh =
      ap (λ (G : Figures). ran G s (length out) (book_of l₁)) is ∙ ap (λ (b : Book). ran F s (length out) b) made.book_is in
      let xs = exchanges_in (ran F s (length out) fresh) in
      let grown = t.law F [] (subst (λ (G : Figures). Stands G l₁ []) is stands) in
      let booked : book_of l ≡ book_then F fresh xs =
      t.booked ∙ ap (λ (r : Run). book_then (figures l₁) (book_of l₁) (exchanges_in r)) same ∙ ap (λ (G : Figures). book_then G (book_of l₁) xs) is
      ∙ ap (λ (b : Book). book_then F b xs) made.book_is in
      record {
        ended = ended ∙ ap end_of same;
        within = within;
        bytes = bytes ∙ ap (λ (r : Run). laid out 0 (bytes_of (exchanges_in r))) same;
        journal = grown.0 ++ [];
        holders = holders_of l;
        stands = subst (λ (b : Book). Standing F b (holders_of l) (units_of l) (grown.0 ++ [])) booked grown.1.0.standing;
        exactly = ap exchanges (append-nil grown.0) ∙ grown.1.1 ∙ ap exchanges_in same;
      }

-- the figures of a policy are those of its scheme
pub copies_plan : (n m size slop : ℕ) (scheme : Scheme) → m ≡ n → scheme ≡ Copies n →
    record { size = size; slop = slop; cost = copies_cost m; worst = copies_cost m largest } ≡ plan size slop scheme
copies_plan n m size slop scheme e is =
    ap (λ (k : ℕ). plan size slop (Copies k)) e ∙ ap (plan size slop) (sym is)

pub parity_plan : (p w q v size slop : ℕ) (scheme : Scheme) → (q ≡ p) × (v ≡ w) → scheme ≡ Parity p w →
    record { size = size; slop = slop; cost = parity_cost q v; worst = parity_cost q v largest } ≡ plan size slop scheme
parity_plan p w q v size slop scheme e is =
    ap (λ (k : ℕ). plan size slop (Parity k v)) e.0 ∙ ap (λ (k : ℕ). plan size slop (Parity p k)) e.1 ∙ ap (plan size slop) (sym is)

pub planned-run : (F G : Figures) (s out after : List ℕ) (us : List Bool) (e : Ended) → F ≡ G → RunWith F s out after us e → RunWith G s out after us e
planned-run F G s out after us e same r = subst (λ (H : Figures). RunWith H s out after us e) same r

-- a ledger can be made over a new allocator
pub checks : (slop n : ℕ) (us : List Bool) → us ≡ replicate n false → slop < n → check_answer slop us ≡ Ok tt
checks slop n us e below =
    let long : length us ≡ n = ap length e ∙ length-replicate n false in
    let none : any_out us ≡ false = none_out us (λ k h. ap (λ (x : List Bool). get_or x k false) e ∙ get_or-replicate n k false false (omega arith)) in
    cond-true _ _ _ (lt-ltb slop (length us) (omega arith)) ∙ cond-false _ _ _ none

-- the run over a new allocator of n units
pub ran_over : (n slop : ℕ) (scheme : Scheme) (s out after : List ℕ) (us vs : List Bool) (e : Ended) → us ≡ replicate n false →
    RunWith (plan (length us) slop scheme) s out after vs e → Ran (plan n slop scheme) s out after e
ran_over n slop scheme s out after us vs e all_in r =
    let long : length us ≡ n = ap length all_in ∙ length-replicate n false in
    record { units = vs; run = subst (λ (m : ℕ). RunWith (plan m slop scheme) s out after vs e) long r }

-- two new allocators one after the other
pub both_in : (us vs : List Bool) (m n : ℕ) → us ≡ replicate m false → vs ≡ replicate n false → us ++ vs ≡ replicate (m + n) false
both_in us vs m n e f = rw (e, f) (replicate-append-replicate m n false)

pub both_few : (us vs : List Bool) (m n : ℕ) → us ≡ replicate m false → vs ≡ replicate n false → m + n ≤ 4096 → length us + length vs ≤ 4096
both_few us vs m n e f few =
    let k : length us ≡ m = ap length e ∙ length-replicate m false in
    let l : length vs ≡ n = ap length f ∙ length-replicate n false in
    omega arith
