-- What the orders do that move units, from what the tally and the marks do.
use Rattle.std.proofs.Common.{◌≡◌, ℕ, zero, suc, ◌+◌, ◌-◌, ◌≤◌, Bool, List, map, Ok, sym, refl, ap, ◌∙◌, subst, arith}
use Rattle.pool.specs.declared.allocator.Allocator.{Ghosts as AllocatorMembers}
use Rattle.costs.specs.declared.policy.CostPolicy.{Ghosts as PolicyMembers}
use Rattle.orders.specs.declared.answer.Answer.TheVariants.{Done, Refused}
use Rattle.orders.specs.declared.answer.Refusal.{Refusal}
use Rattle.orders.specs.Meaning.{Meaning, resize, write, free, turn}
use Rattle.pool.specs.Units.{outs}
use Rattle.rules.specs.declared.state.Holder.{Holder}
use Rattle.rules.specs.declared.state.Holder.TheVariants.{Record}
use Rattle.rules.specs.Figures.{Figures}
use Rattle.rules.specs.Book.{transaction, records, volume_of}
use Rattle.rules.specs.Answers.{answer}
use Rattle.rules.specs.Effects.{next}
use Rattle.rules.specs.Holders.{defer, release, handed}
use Rattle.rules.specs.Marks.{mark, defer_from}
use Rattle.rules.specs.Journal.{book_after}
use Rattle.rules.specs.Theorems.{Moves, Fits, given_back}
use Rattle.rules.proofs.Accepted.{write_ok}
use Rattle.rules.proofs.Finds.{finds}
use Rattle.marks.specs.declared.marks.Marks.{Marks}
use Rattle.marks.specs.Sound.{pool_of as pool_in, holders_of as holders_in, size_of, returned, take_answer, TookFor}
use Rattle.marks.proofs.Takes.{answer_ok}
use Rattle.tally.specs.declared.Tally.{Tally}
use Rattle.tally.specs.Parts.{book_of as book_in, figures_of, Same, Accepts, Did as TallyDid}
use Rattle.ledger.specs.declared.Ledger.{Ledger}
use Rattle.ledger.specs.Parts.{book_of, holders_of, pool_of, units_of, lent_of, figures, PoolKept, DidTo}
use Rattle.ledger.proofs.Laws.{worst_is, size_is, sane, fair, figures_tally}

pool_same : {A : Type 0} (m : Meaning) (p : A) → PoolKept m p p
pool_same (write t r s) x = tt
pool_same turn x = tt
pool_same _ x = refl

-- one record more
defer-suc : (v r n : ℕ) (hs : List Holder) → defer_from v r (suc n) hs ≡ map (defer v (r + n)) (defer_from v r n hs)
unfolding defer_from
defer-suc v r zero hs = ap (λ (k : ℕ). map (defer v k) hs) (omega arith)
defer-suc v r (suc n) hs =
    defer-suc v (suc r) n (map (defer v r) hs) ∙ ap (λ (k : ℕ). map (defer v k) (defer_from v (suc r) n (map (defer v r) hs))) (omega arith)

pub defer-more : (v r n : ℕ) (hs : List Holder) → defer_from v r (n + 1) hs ≡ map (defer v (r + n)) (defer_from v r n hs)
defer-more v r n hs = ap (λ (k : ℕ). defer_from v r k hs) (omega arith) ∙ defer-suc v r n hs

pub defer-none : (v r : ℕ) (hs : List Holder) → defer_from v r 0 hs ≡ hs
unfolding defer_from
defer-none v r hs = refl

returned_given : (us : List Bool) (hs : List Holder) → returned us hs ≡ given_back us hs
unfolding given_back
returned_given us hs = refl

-- the units out are the same, whichever pool says so
took_from : (h : Holder) (n : ℕ) (us us' vs : List Bool) (hs hs' ks : List Holder) → us ≡ us' → hs ≡ hs' → TookFor h n us vs hs ks → TookFor h n us' vs hs' ks
took_from h n us us' vs hs hs' ks e f took =
    subst (λ (x : List Bool). TookFor h n x vs hs' ks) e (subst (λ (x : List Holder). TookFor h n us vs x ks) f took)

module _ {A P : Type 0} {gA : AllocatorMembers A} {gP : PolicyMembers P} where
  -- a refused order
  pub refused : (l : Ledger A P gA gP) (t : Tally) (m : Meaning) (f : Refusal) → Fits m → TallyDid l.tally t m (Refused f) →
      DidTo l t l.marks l.policy m (Refused f)
  refused l t m f fits d =
      record {
        fits = fits;
        policy_same = refl;
        same = d.same;
        size_same = refl;
        answered = d.answered (gP.cost l.policy) ∙ ap (λ (F : Figures). answer F (book_of l) m) (figures_tally l);
        booked = ap book_in d.left;
        marked = refl;
        moved = refl;
        tally_left = d.left;
        marks_left = refl;
        pool_kept = pool_same m (pool_of l);
        lent = refl;
      }

  -- an order that is refused before it is begun
  pub left_alone : (l : Ledger A P gA gP) (m : Meaning) (f : Refusal) → Fits m →
      ((cost : ℕ → ℕ) → answer (figures_of cost l.tally) (book_of l) m ≡ Refused f) → DidTo l l.tally l.marks l.policy m (Refused f)
  left_alone l m f fits e =
      let same : Same l.tally l.tally = record { size = refl; slop = refl; worst = refl } in
      refused l l.tally m f fits (record { answered = λ cost. sym (e cost); booked = λ cost. refl; same = same; left = refl })

  -- an accepted order that changes who has units
  pub moving : (l : Ledger A P gA gP) (t : Tally) (ms : Marks A gA) (m : Meaning) (k : ℕ) → Fits m → TallyDid l.tally t m (Done k) →
      size_of ms ≡ size_of l.marks →
      holders_in ms ≡ mark (book_of l) m (units_of l) (gA.units (pool_in ms)) (holders_of l) → Moves (figures l) m (holders_of l) (units_of l) (gA.units (pool_in ms)) →
      PoolKept m (pool_of l) (pool_in ms) → gA.lent (pool_in ms) ≡ lent_of l → DidTo l t ms l.policy m (Done k)
  moving l t ms m k fits d size marked moves kept lent =
      record {
        fits = fits;
        policy_same = refl;
        same = d.same;
        size_same = size;
        answered = d.answered (gP.cost l.policy) ∙ ap (λ (F : Figures). answer F (book_of l) m) (figures_tally l);
        booked = d.booked (gP.cost l.policy) ∙ ap (λ (F : Figures). book_after F (book_of l) m (Done k)) (figures_tally l);
        marked = marked;
        moved = moves;
        tally_left = d.left;
        marks_left = tt;
        pool_kept = kept;
        lent = lent;
      }

  pub freeing : (l : Ledger A P gA gP) (t : Tally) (ms : Marks A gA) (x r v k : ℕ) → Fits (free x r) → TallyDid l.tally t (free x r) (Done k) →
      v ≡ volume_of (transaction (book_of l) x) →
      size_of ms ≡ size_of l.marks → holders_in ms ≡ map (defer v r) (holders_of l) → pool_in ms ≡ pool_of l →
      DidTo l t ms l.policy (free x r) (Done k)
  freeing l t ms x r v k fits d on size holders pool =
      moving l t ms (free x r) k fits d size (holders ∙ ap (λ (w : ℕ). map (defer w r) (holders_of l)) on) (ap gA.units pool) pool (ap gA.lent pool)

  pub resizing : (l : Ledger A P gA gP) (t : Tally) (ms : Marks A gA) (v n old k : ℕ) → Fits (resize v n) → TallyDid l.tally t (resize v n) (Done k) →
      old ≡ records (book_of l) v →
      size_of ms ≡ size_of l.marks → holders_in ms ≡ defer_from v n (old - n) (holders_of l) → pool_in ms ≡ pool_of l →
      DidTo l t ms l.policy (resize v n) (Done k)
  resizing l t ms v n old k fits d was size holders pool =
      moving l t ms (resize v n) k fits d size (holders ∙ ap (λ (o : ℕ). defer_from v n (o - n) (holders_of l)) was) (ap gA.units pool) pool (ap gA.lent pool)

  pub turning : (l : Ledger A P gA gP) (t : Tally) (ms : Marks A gA) (k : ℕ) → TallyDid l.tally t turn (Done k) →
      size_of ms ≡ size_of l.marks → holders_in ms ≡ map release (holders_of l) → gA.units (pool_in ms) ≡ returned (units_of l) (holders_of l) →
      gA.lent (pool_in ms) ≡ lent_of l → DidTo l t ms l.policy turn (Done k)
  turning l t ms k d size holders units lent =
      moving l t ms turn k tt d size holders (units ∙ returned_given (units_of l) (holders_of l)) tt lent

  -- a write that is accepted, of which nothing is done yet
  module _ (l : Ledger A P gA gP) (x r s v n : ℕ) (accepts : Accepts l.tally x r s v) (costs : n ≡ gP.cost l.policy s) where
    done_as : answer (figures l) (book_of l) (write x r s) ≡ Done n
    done_as = ap (λ (F : Figures). answer F (book_of l) (write x r s)) (sym (figures_tally l)) ∙ accepts.answered (gP.cost l.policy) ∙ ap Done (sym costs)

    pub size_fits : s ≤ 16
    size_fits = (write_ok (figures l) (book_of l) n x r s done_as).4

    pub cheap : n ≤ l.tally.worst
    cheap = omega (arith, (gP.bounded l.policy).within s size_fits, worst_is l, costs)

    pub finds-units : (ms : Marks A gA) → pool_in ms ≡ pool_of l → take_answer v r n (gA.units (pool_in ms)) ≡ Ok tt
    finds-units ms pool =
        let F = figures l in
        let b = book_of l in
        let on = accepts.volume_is in
        let o = write_ok F b n x r s done_as in
        let shaped = (fair l).shaped in
        let there = (shaped.transactions x).on_volume (λ idle. let a = o.1 in let z : ◌≡◌ {A = ℕ} 0 1 = cc in omega arith) in
        let few = (shaped.datasets (volume_of (transaction b x))).contents.records_few in
        let room = finds F b (holders_of l) (units_of l) x r s n (sane l) (fair l) done_as in
        let long = l.marks.sized in
        let same : gA.units (pool_in ms) ≡ units_of l = ap gA.units pool in
        subst (λ (us : List Bool). take_answer v r n us ≡ Ok tt) (sym same)
        (sym (answer_ok v r n (units_of l) (omega (arith, there.0, shaped.few)) (omega (arith, o.3)) (omega (arith, size_is l))))

    pub writing : (t : Tally) (m₁ m₂ : Marks A gA) → Fits (write x r s) → Same l.tally t →
        ((cost : ℕ → ℕ) (z : ℕ) → cost z ≡ n → book_in t ≡ next (figures_of cost l.tally) (book_of l) (write x r z)) →
        holders_in m₁ ≡ map (defer v r) (holders_of l) → pool_in m₁ ≡ pool_of l → size_of m₁ ≡ size_of l.marks →
        TookFor (Record v r) n (gA.units (pool_in m₁)) (gA.units (pool_in m₂)) (holders_in m₁) (holders_in m₂) → size_of m₂ ≡ size_of m₁ → gA.lent (pool_in m₂) ≡ gA.lent (pool_in m₁) →
        DidTo l t m₂ l.policy (write x r s) (Done n)
    writing t m₁ m₂ fits same booked holders pool size took size₂ lent =
        let us = units_of l in
        let vs = gA.units (pool_in m₂) in
        let hs = map (defer v r) (holders_of l) in
        let took' = took_from (Record v r) n (gA.units (pool_in m₁)) us vs (holders_in m₁) hs (holders_in m₂) (ap gA.units pool) holders took in
        record {
          fits = fits;
          policy_same = refl;
          same = same;
          size_same = size₂ ∙ size;
          answered = sym done_as;
          booked = booked (gP.cost l.policy) s (sym costs) ∙ ap (λ (F : Figures). next F (book_of l) (write x r s)) (figures_tally l);
          marked = took'.marks ∙ ap (λ (w : ℕ). handed (Record w r) us vs (map (defer w r) (holders_of l))) accepts.volume_is;
          moved = record { as_many = took'.long; stay_out = took'.stays; counted = took'.more ∙ ap (λ (k : ℕ). outs us + k) costs };
          tally_left = tt;
          marks_left = tt;
          pool_kept = tt;
          lent = lent ∙ ap gA.lent pool;
        }
