use Rattle.std.proofs.Common.{rules, refl}
use Rattle.orders.specs.Meaning.{folder, volume, quota, reserve, begin, hold_writes, hold_frees, assign, abort, commit, tell}
use Rattle.rules.specs.Theorems.{Fits}
use Rattle.ledger.proofs.Laws as laws
use Rattle.ledger.proofs.Ledger.carry_out.Goals as goal

pub invariant_of-self : goal.invariant_of-self
invariant_of-self g c =
    let fits : Fits (folder c.in-Folder.parent c.bytes_of.result) = search rules in
    record { sound = laws.plain_kept c.args.self.now c.folder.new.self (folder c.in-Folder.parent c.bytes_of.result) _ fits c.folder.ensures refl refl refl }

pub returns-in-Folder : goal.returns-in-Folder
returns-in-Folder g c =
    let fits : Fits (folder c.in-Folder.parent c.bytes_of.result) = search rules in
    let did = laws.plain c.args.self.now c.folder.new.self (folder c.in-Folder.parent c.bytes_of.result) _ fits c.folder.ensures refl refl refl in
    search rules

pub invariant_of-self-in-Volume : goal.invariant_of-self-in-Volume
invariant_of-self-in-Volume g c =
    let fits : Fits (volume c.in-Volume.parent c.in-Volume.records c.bytes_of-in-Volume.result) = search rules in
    record { sound = laws.plain_kept c.args.self.now c.volume.new.self (volume c.in-Volume.parent c.in-Volume.records c.bytes_of-in-Volume.result) _ fits c.volume.ensures refl refl refl }

pub returns-in-Volume : goal.returns-in-Volume
returns-in-Volume g c =
    let fits : Fits (volume c.in-Volume.parent c.in-Volume.records c.bytes_of-in-Volume.result) = search rules in
    let did = laws.plain c.args.self.now c.volume.new.self (volume c.in-Volume.parent c.in-Volume.records c.bytes_of-in-Volume.result) _ fits c.volume.ensures refl refl refl in
    search rules

pub invariant_of-self-in-Quota : goal.invariant_of-self-in-Quota
invariant_of-self-in-Quota g c =
    let fits : Fits (quota c.in-Quota.dataset c.in-Quota.units) = search rules in
    record { sound = laws.plain_kept c.args.self.now c.quota.new.self (quota c.in-Quota.dataset c.in-Quota.units) _ fits c.quota.ensures refl refl refl }

pub returns-in-Quota : goal.returns-in-Quota
returns-in-Quota g c =
    let fits : Fits (quota c.in-Quota.dataset c.in-Quota.units) = search rules in
    let did = laws.plain c.args.self.now c.quota.new.self (quota c.in-Quota.dataset c.in-Quota.units) _ fits c.quota.ensures refl refl refl in
    search rules

pub invariant_of-self-in-Reserve : goal.invariant_of-self-in-Reserve
invariant_of-self-in-Reserve g c =
    let fits : Fits (reserve c.in-Reserve.dataset c.in-Reserve.units) = search rules in
    record { sound = laws.plain_kept c.args.self.now c.reserve.new.self (reserve c.in-Reserve.dataset c.in-Reserve.units) _ fits c.reserve.ensures refl refl refl }

pub returns-in-Reserve : goal.returns-in-Reserve
returns-in-Reserve g c =
    let fits : Fits (reserve c.in-Reserve.dataset c.in-Reserve.units) = search rules in
    let did = laws.plain c.args.self.now c.reserve.new.self (reserve c.in-Reserve.dataset c.in-Reserve.units) _ fits c.reserve.ensures refl refl refl in
    search rules

pub invariant_of-self-in-Begin : goal.invariant_of-self-in-Begin
invariant_of-self-in-Begin g c =
    let fits : Fits (begin c.in-Begin.transaction c.in-Begin.volume) = search rules in
    record { sound = laws.plain_kept c.args.self.now c.begin.new.self (begin c.in-Begin.transaction c.in-Begin.volume) _ fits c.begin.ensures refl refl refl }

pub returns-in-Begin : goal.returns-in-Begin
returns-in-Begin g c =
    let fits : Fits (begin c.in-Begin.transaction c.in-Begin.volume) = search rules in
    let did = laws.plain c.args.self.now c.begin.new.self (begin c.in-Begin.transaction c.in-Begin.volume) _ fits c.begin.ensures refl refl refl in
    search rules

pub invariant_of-self-in-HoldWrites : goal.invariant_of-self-in-HoldWrites
invariant_of-self-in-HoldWrites g c =
    let fits : Fits (hold_writes c.in-HoldWrites.transaction c.in-HoldWrites.count) = search rules in
    record { sound = laws.plain_kept c.args.self.now c.hold_writes.new.self (hold_writes c.in-HoldWrites.transaction c.in-HoldWrites.count) _ fits c.hold_writes.ensures refl refl refl }

pub returns-in-HoldWrites : goal.returns-in-HoldWrites
returns-in-HoldWrites g c =
    let fits : Fits (hold_writes c.in-HoldWrites.transaction c.in-HoldWrites.count) = search rules in
    let did = laws.plain c.args.self.now c.hold_writes.new.self (hold_writes c.in-HoldWrites.transaction c.in-HoldWrites.count) _ fits c.hold_writes.ensures refl refl refl in
    search rules

pub invariant_of-self-in-HoldFrees : goal.invariant_of-self-in-HoldFrees
invariant_of-self-in-HoldFrees g c =
    let fits : Fits (hold_frees c.in-HoldFrees.transaction c.in-HoldFrees.count) = search rules in
    record { sound = laws.plain_kept c.args.self.now c.hold_frees.new.self (hold_frees c.in-HoldFrees.transaction c.in-HoldFrees.count) _ fits c.hold_frees.ensures refl refl refl }

pub returns-in-HoldFrees : goal.returns-in-HoldFrees
returns-in-HoldFrees g c =
    let fits : Fits (hold_frees c.in-HoldFrees.transaction c.in-HoldFrees.count) = search rules in
    let did = laws.plain c.args.self.now c.hold_frees.new.self (hold_frees c.in-HoldFrees.transaction c.in-HoldFrees.count) _ fits c.hold_frees.ensures refl refl refl in
    search rules

pub invariant_of-self-in-Assign : goal.invariant_of-self-in-Assign
invariant_of-self-in-Assign g c =
    let fits : Fits (assign c.in-Assign.transaction) = search rules in
    record { sound = laws.plain_kept c.args.self.now c.assign.new.self (assign c.in-Assign.transaction) _ fits c.assign.ensures refl refl refl }

pub returns-in-Assign : goal.returns-in-Assign
returns-in-Assign g c =
    let fits : Fits (assign c.in-Assign.transaction) = search rules in
    let did = laws.plain c.args.self.now c.assign.new.self (assign c.in-Assign.transaction) _ fits c.assign.ensures refl refl refl in
    search rules

pub invariant_of-self-in-Abort : goal.invariant_of-self-in-Abort
invariant_of-self-in-Abort g c =
    let fits : Fits (abort c.in-Abort.transaction) = search rules in
    record { sound = laws.plain_kept c.args.self.now c.abort.new.self (abort c.in-Abort.transaction) _ fits c.abort.ensures refl refl refl }

pub returns-in-Abort : goal.returns-in-Abort
returns-in-Abort g c =
    let fits : Fits (abort c.in-Abort.transaction) = search rules in
    let did = laws.plain c.args.self.now c.abort.new.self (abort c.in-Abort.transaction) _ fits c.abort.ensures refl refl refl in
    search rules

pub invariant_of-self-in-Commit : goal.invariant_of-self-in-Commit
invariant_of-self-in-Commit g c =
    let fits : Fits (commit c.in-Commit.transaction) = search rules in
    record { sound = laws.plain_kept c.args.self.now c.commit.new.self (commit c.in-Commit.transaction) _ fits c.commit.ensures refl refl refl }

pub returns-in-Commit : goal.returns-in-Commit
returns-in-Commit g c =
    let fits : Fits (commit c.in-Commit.transaction) = search rules in
    let did = laws.plain c.args.self.now c.commit.new.self (commit c.in-Commit.transaction) _ fits c.commit.ensures refl refl refl in
    search rules

pub returns-in-Tell : goal.returns-in-Tell
returns-in-Tell g c =
    let fits : Fits (tell c.in-Tell.dataset) = search rules in
    let did = laws.plain c.args.self.now c.args.self.now.tally (tell c.in-Tell.dataset) _ fits c.tell.ensures refl refl refl in
    search rules
