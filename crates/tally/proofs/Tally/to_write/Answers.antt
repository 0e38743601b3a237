use Rattle.std.proofs.Common.{sym}
use Rattle.std.proofs.lemmas.Result.{err_from_is_err_and}
use Rattle.tally.proofs.Writes.{write_table, write_no_record, write_too_large, write_accepts}
use Rattle.tally.proofs.Tally.to_write.Goals as goal

pub check_record-requires : goal.check_record-requires
check_record-requires c =
    write_table c.args.self.now c.args.t c.args.number c.in_ok-change.change (sym c.in_ok-change.ensures)
    c.volume_of-volume.result c.volume_of-volume.ensures

pub returns-in_err-check_record : goal.returns-in_err-check_record
returns-in_err-check_record c =
    let p = err_from_is_err_and c.from_residual-in_err-check_record.result c.from_residual-in_err-check_record.ensures.1 in
    rw (p.1, p.2)
    (write_no_record c.args.self.now c.args.t c.args.number c.in_ok-change.change (sym c.in_ok-change.ensures)
    c.volume_of-volume.result c.volume_of-volume.ensures c.in_err-check_record.field-0.0 (sym c.in_err-check_record.ensures) c.args.size)

pub returns-then-size-gt-LARGEST : goal.returns-then-size-gt-LARGEST
returns-then-size-gt-LARGEST c =
    write_too_large c.args.self.now c.args.t c.args.number c.in_ok-change.change (sym c.in_ok-change.ensures)
    c.volume_of-volume.result c.volume_of-volume.ensures (sym c.in_ok-check_record.ensures) c.args.size c.if-size-gt-LARGEST.true

pub returns : goal.returns
returns c =
    write_accepts c.args.self.now c.args.t c.args.number c.in_ok-change.change (sym c.in_ok-change.ensures)
    c.volume_of-volume.result c.volume_of-volume.ensures (sym c.in_ok-check_record.ensures) c.args.size c.if-size-gt-LARGEST.false
