-- A run under way: the ledger went through what was exchanged so far.
use Rattle.std.proofs.Common.{◌≡◌, ℕ, ◌+◌, ◌<◌, ◌≤◌, List, [], ◌∷◌, ◌++◌, length, Some, Ok, Err, Option, Result, sym, ap, ◌∙◌, subst}
use Rattle.std.proofs.lemmas.Bool.{cond-true, cond-false, le-ltb, lt-ltb}
use Rattle.pool.specs.declared.allocator.Allocator.{Ghosts as AllocatorMembers}
use Rattle.costs.specs.declared.policy.CostPolicy.{Ghosts as PolicyMembers}
use Rattle.orders.specs.declared.answer.Answer.{Answer}
use Rattle.orders.specs.declared.order.Order.{Order}
use Rattle.orders.specs.Meaning.{Meaning, meaning, name_place}
use Rattle.orders.specs.Layout.{answer_bytes, laid}
use Rattle.rules.specs.Figures.{Figures}
use Rattle.rules.specs.Answers.{answer}
use Rattle.rules.specs.Journal.{book_after}
use Rattle.rules.specs.Served.{Exchange, exchange, bytes_of}
use Rattle.ledger.specs.declared.Ledger.{Ledger}
use Rattle.ledger.specs.Parts.{book_of, figures}
use Rattle.ledger.specs.Serves.{Through}
use Rattle.ledger.proofs.Serving.{through-none}
use Rattle.reader.specs.Decode.{decode, order, fault, finished, ReadOne, Onward}
use Rattle.reader.specs.declared.fault.ReadFault.{ReadFault}
use Rattle.runner.specs.declared.ended.Ended.{Ended}
use Rattle.runner.specs.declared.fault.ScriptFault.{ScriptFault}
use Rattle.runner.specs.declared.fault.ScriptFault.TheVariants.{TooLong, Unreadable, NoRoom}
use Rattle.runner.specs.Runs.{Ran, ends, ran_from, ran, exchanges_in, ended_with, end_of}
use Rattle.runner.specs.Steps.{One}
use Rattle.runner.proofs.Ones.{after}
use Rattle.runner.proofs.Going.{Going, start, one_more, long, Done, at_the_end, at_a_fault, no_room}

pub record Running {A P : Type 0} {gA : AllocatorMembers A} {gP : PolicyMembers P} (l₀ l : Ledger A P gA gP) (s out₀ : List ℕ) (p n w : ℕ) (out : List ℕ) : Type 0 where
  pub so_far : List Exchange
  pub going : Going (figures l₀) s (book_of l₀) out₀ (book_of l) p n w out so_far
  pub through : Through l₀ l so_far

module _ {A P : Type 0} {gA : AllocatorMembers A} {gP : PolicyMembers P} where
  pub begins : (l : Ledger A P gA gP) (s out : List ℕ) → Running l l s out 0 0 0 out
  begins l s out = record { so_far = []; going = start (figures l) s (book_of l) out; through = through-none l }

  pub goes_on : (l₀ l l' : Ledger A P gA gP) (s out₀ : List ℕ) (p n w : ℕ) (out : List ℕ) → Running l₀ l s out₀ p n w out →
      (q : ℕ) (m : Meaning) (o : Option ℕ) (a : Answer) (out' : List ℕ) → decode s p ≡ order m o q → p < q → w + 17 ≤ length out₀ →
      One l l' m a → out' ≡ laid out w (answer_bytes a) → Running l₀ l' s out₀ q (n + 1) (w + length (answer_bytes a)) out'
  goes_on l₀ l l' s out₀ p n w out run q m o a out' e up room did eo =
      let F = figures l₀ in
      let b = book_of l in
      let ruled : a ≡ answer F b m = did.answered ∙ ap (λ (G : Figures). answer G b m) run.through.figured in
      let booked : book_of l' ≡ book_after F b m (answer F b m) =
      did.through.booked ∙ ap (λ (G : Figures). book_after G b m a) run.through.figured ∙ ap (book_after F b m) ruled in
      let done = subst (λ (c : Answer). Through l l' (exchange m c ∷ [])) ruled did.through in
      record {
        so_far = run.so_far ++ exchange m (answer F b m) ∷ [];
        going =
            one_more F s (book_of l₀) out₀ b p n w out run.so_far run.going q m o (book_of l') (w + length (answer_bytes a)) out' e up room booked
            (ap (λ (c : Answer). w + length (answer_bytes c)) ruled)
            (eo ∙ ap (λ (c : Answer). laid out w (answer_bytes c)) ruled);
        through = after l₀ l l' run.so_far m (answer F b m) run.through done;
      }

  -- the room for answers stays as it was
  pub kept : (l₀ l : Ledger A P gA gP) (s out₀ : List ℕ) (p n w : ℕ) (out : List ℕ) → Running l₀ l s out₀ p n w out → length out ≡ length out₀
  kept l₀ l s out₀ p n w out run = long (figures l₀) s (book_of l₀) out₀ (book_of l) p n w out run.so_far run.going

  pub record Finished (l₀ l : Ledger A P gA gP) (s out₀ out : List ℕ) (r : Ended) : Type 0 where
    pub ended_so : r ≡ end_of (ran (figures l₀) s (length out₀) (book_of l₀))
    pub bytes_so : out ≡ laid out₀ 0 (bytes_of (exchanges_in (ran (figures l₀) s (length out₀) (book_of l₀))))
    pub through : Through l₀ l (exchanges_in (ran (figures l₀) s (length out₀) (book_of l₀)))

  pub finish : (l₀ l : Ledger A P gA gP) (s out₀ : List ℕ) (p n w : ℕ) (out : List ℕ) (run : Running l₀ l s out₀ p n w out) (r : Ended) →
      Done (figures l₀) s (book_of l₀) out₀ out run.so_far r → length s ≤ 4096 → Finished l₀ l s out₀ out r
  finish l₀ l s out₀ p n w out run r d small =
      let e : ran_from (length s + 1) (figures l₀) s (length out₀) (book_of l₀) 0 0 ≡ ran (figures l₀) s (length out₀) (book_of l₀) =
      sym (cond-false _ _ _ (le-ltb 4096 (length s) small)) in
      let x = d.exchanged_so ∙ ap exchanges_in e in
      record {
        ended_so = d.ended_so ∙ ap end_of e;
        bytes_so = d.laid_so ∙ ap (λ (ys : List Exchange). laid out₀ 0 (bytes_of ys)) x;
        through = subst (λ (ys : List Exchange). Through l₀ l ys) x run.through;
      }

  pub too_long : (l : Ledger A P gA gP) (s out : List ℕ) → 4096 < length s → Finished l l s out out (ended_with (Err TooLong) 0 0)
  too_long l s out long =
      let e : ends (Err TooLong) ≡ ran (figures l) s (length out) (book_of l) = sym (cond-true _ _ _ (lt-ltb 4096 (length s) long)) in
      record {
        ended_so = ap end_of e;
        bytes_so = ap (λ (r : Ran). laid out 0 (bytes_of (exchanges_in r))) e;
        through = subst (λ (r : Ran). Through l l (exchanges_in r)) e (through-none l);
      }

  -- a run at the place p, whose reader stands over the bytes rs
  module _ (l₀ l : Ledger A P gA gP) (s rs out₀ : List ℕ) (p place n w : ℕ) (out : List ℕ) (same : rs ≡ s) (here : place ≡ p) (small : length s ≤ 4096)
      (run : Running l₀ l s out₀ p n w out) where
    at_place : (stop : ℕ → Result ℕ ScriptFault) → Done (figures l₀) s (book_of l₀) out₀ out run.so_far (ended_with (stop p) n w) → Finished l₀ l s out₀ out (ended_with (stop place) n w)
    at_place stop d =
        finish l₀ l s out₀ p n w out run (ended_with (stop place) n w)
        (subst (λ (q : ℕ). Done (figures l₀) s (book_of l₀) out₀ out run.so_far (ended_with (stop q) n w)) (sym here) d) small

    pub ends_there : decode rs p ≡ finished → Finished l₀ l s out₀ out (ended_with (Ok place) n w)
    ends_there e =
        at_place (λ (q : ℕ). Ok q) (at_the_end (figures l₀) s (book_of l₀) out₀ (book_of l) p n w out run.so_far run.going (subst (λ (x : List ℕ). decode x p ≡ finished) same e))

    pub faults_there : (f : ReadFault) → decode rs p ≡ fault f → Finished l₀ l s out₀ out (ended_with (Err (Unreadable f)) n w)
    faults_there f e =
        at_place (λ (q : ℕ). Err (Unreadable f))
        (at_a_fault (figures l₀) s (book_of l₀) out₀ (book_of l) p n w out run.so_far run.going f (subst (λ (x : List ℕ). decode x p ≡ fault f) same e))

    -- an order o was read, up to the place q
    module _ (next : Option Order) (o : Order) (q : ℕ) (is : next ≡ Some o) (value : ReadOne rs p q (Ok next)) where
      read_there : decode s p ≡ order (meaning o) (name_place o) q
      read_there =
          subst (λ (x : List ℕ). decode x p ≡ order (meaning o) (name_place o) q) same (subst (λ (x : Option Order). ReadOne rs p q (Ok x)) is value)

      pub lacks_room : length out₀ < w + 17 → Finished l₀ l s out₀ out (ended_with (Err (NoRoom place)) n w)
      lacks_room less =
          at_place (λ (x : ℕ). Err (NoRoom x))
          (no_room (figures l₀) s (book_of l₀) out₀ (book_of l) p n w out run.so_far run.going q (meaning o) (name_place o) read_there less)

      pub ahead : Onward rs p q (Ok next) → (p < q) × (q ≤ length s)
      ahead on = subst (λ (x : List ℕ). (p < q) × (q ≤ length x)) same (subst (λ (x : Option Order). Onward rs p q (Ok x)) is on)

      pub goes : (l' : Ledger A P gA gP) (a : Answer) (out' : List ℕ) → Onward rs p q (Ok next) → w + 17 ≤ length out₀ → One l l' (meaning o) a → out' ≡ laid out w (answer_bytes a) →
          Running l₀ l' s out₀ q (n + 1) (w + length (answer_bytes a)) out'
      goes l' a out' on room did eo = goes_on l₀ l l' s out₀ p n w out run q (meaning o) (name_place o) a out' read_there (ahead on).0 room did eo
