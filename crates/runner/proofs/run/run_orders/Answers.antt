use Rattle.std.proofs.Common.{◌+◌, ◌<◌, ◌≤◌, length, Ok, Option, refl, ap, ◌∙◌, subst, arith}
use Rattle.std.proofs.lemmas.Result.{err_from_is_err_and}
use Rattle.orders.specs.declared.answer.Answer.{Answer}
use Rattle.orders.specs.declared.order.Order.{Order}
use Rattle.orders.specs.Layout.{answer_bytes}
use Rattle.reader.specs.Decode.{place_of, script_of, ReadOne}
use Rattle.runner.proofs.Ones.{short}
use Rattle.runner.proofs.Running as running
use Rattle.runner.proofs.run.run_orders.Goals as goal

pub orders-init : goal.orders-init
orders-init g c =
    let l = c.args.ledger.now in
    let s = c.args.script.now in
    let out = c.args.out.now in
    record {
      same = c.new-reader.ensures.bytes;
      named = refl;
      run = rw (c.new-reader.ensures.start, c.requires.none.0, c.requires.none.1) (running.begins l s out.bytes.now);
    }

pub returns-in_err-order : goal.returns-in_err-order
returns-in_err-order g c =
    let o = c.orders in
    let p = err_from_is_err_and c.from_residual.result c.from_residual.ensures.1 in
    let f = running.faults_there c.args.ledger.now o.ledger c.args.script.now (script_of o.reader) c.args.out.now.bytes.now (place_of o.reader) c.place-place.result
    o.out.answered o.out.written o.out.bytes.now o.invariant.same c.place-place.ensures c.requires.few o.invariant.run
    c.in_err-order.field-0.0 c.in_err-order.ensures.value.0 in
    record { ended = rw (p.1, p.2) f.ended_so; bytes = f.bytes_so; through = f.through; same_reference = o.invariant.named }

pub returns-in_default : goal.returns-in_default
returns-in_default g c =
    let o = c.orders in
    let value = subst (λ (x : Option Order). ReadOne (script_of o.reader) (place_of o.reader) (place_of c.next_order.new.self) (Ok x)) c.in_default.is c.in_ok-order.ensures.value in
    let f = running.ends_there c.args.ledger.now o.ledger c.args.script.now (script_of o.reader) c.args.out.now.bytes.now (place_of o.reader) c.place-place.result
    o.out.answered o.out.written o.out.bytes.now o.invariant.same c.place-place.ensures c.requires.few o.invariant.run value.0 in
    record { ended = f.ended_so; bytes = f.bytes_so; through = f.through; same_reference = o.invariant.named }

pub returns-then-room-lt-LONGEST_ANSWER : goal.returns-then-room-lt-LONGEST_ANSWER
returns-then-room-lt-LONGEST_ANSWER g c =
    let o = c.orders in
    let kept = running.kept c.args.ledger.now o.ledger c.args.script.now c.args.out.now.bytes.now (place_of o.reader) o.out.answered o.out.written o.out.bytes.now o.invariant.run in
    let less : length c.args.out.now.bytes.now < o.out.written + 17 = omega (arith, c.if-room-lt-LONGEST_ANSWER.true, c.room.ensures, kept) in
    let f = running.lacks_room c.args.ledger.now o.ledger c.args.script.now (script_of o.reader) c.args.out.now.bytes.now (place_of o.reader) c.place-place.result
    o.out.answered o.out.written o.out.bytes.now o.invariant.same c.place-place.ensures c.requires.few o.invariant.run
    c.in_ok-order.field-0 c.in-Some.order (place_of c.next_order.new.self) c.in-Some.is c.in_ok-order.ensures.value less in
    record { ended = f.ended_so; bytes = f.bytes_so; through = f.through; same_reference = o.invariant.named }

-- there is room for any answer
pub push-requires : goal.push-requires
push-requires g c =
    omega (arith, c.if-room-lt-LONGEST_ANSWER.false, c.room.ensures, short _ c.obey_at.ensures.one.proper, ap (λ (a : Answer). length (answer_bytes a)) c.answer-said.ensures)

pub orders-preserved : goal.orders-preserved
orders-preserved g c =
    let o = c.orders in
    let kept = running.kept c.args.ledger.now o.ledger c.args.script.now c.args.out.now.bytes.now (place_of o.reader) o.out.answered o.out.written o.out.bytes.now o.invariant.run in
    let room : o.out.written + 17 ≤ length c.args.out.now.bytes.now = omega (arith, c.if-room-lt-LONGEST_ANSWER.false, c.room.ensures, kept) in
    let r = running.goes c.args.ledger.now o.ledger c.args.script.now (script_of o.reader) c.args.out.now.bytes.now (place_of o.reader) c.place-place.result
    o.out.answered o.out.written o.out.bytes.now o.invariant.same c.place-place.ensures c.requires.few o.invariant.run
    c.in_ok-order.field-0 c.in-Some.order (place_of c.next_order.new.self) c.in-Some.is c.in_ok-order.ensures.value c.obey_at.new.ledger c.answer-said.result c.push.new.self.bytes.now
    c.in_ok-order.ensures.forward room (rw c.answer-said.ensures c.obey_at.ensures.one) c.push.ensures.bytes in
    record {
      same = c.in_ok-order.ensures.same ∙ o.invariant.same;
      named = c.push.ensures.same_reference ∙ o.invariant.named;
      run = rw (c.push.ensures.answered, c.push.ensures.written) r;
    }
