use Rattle.std.proofs.Common.{sym, ◌∙◌, length, refl, arith}
use denote.Memory.{lone}
use Rattle.flow.specs.Tables.{holds, table_of}
use Rattle.flow.specs.Breaches.{Occurs}
use Rattle.scan.specs.Verdicts.{EntryShows}
use Rattle.scan.proofs.Larger.{first_entered}
use Rattle.scan.proofs.Shown.{first_same}
use Rattle.scan.proofs.Sizes.{entry_fits}
use Rattle.scan.proofs.program.Program.entry_breach.Goals as goal

pub entry_at-requires : goal.entry_at-requires
entry_at-requires g c = entry_fits (lone g.row.K.mir) (length c.args.operands.now) (omega arith) c.well_formed.1.0.1

pub address_breach-requires : goal.address_breach-requires
address_breach-requires g c = (entry_fits (lone g.row.K.mir) (length c.args.operands.now) (omega arith) c.well_formed.1.0.1, c.requires.0)

pub returns-in_ok-entry_at : goal.returns-in_ok-entry_at
returns-in_ok-entry_at g c =
    let o = g.K.Operand.operations in
    let code = c.args.self.now.code.now in
    let grants = c.args.self.now.masks.grants.now in
    let p = c.args.p in
    let status = c.args.status.now in
    let operands = c.args.operands.now in
    let t = table_of o status operands in
    let held = c.in_ok-entry_at.field-0 in
    let found = c.address_breach.result in
    first_same (Occurs o code grants (holds o t p) p) (EntryShows o code grants t p) found
    (λ k w. (sym c.has_entry.ensures ∙ c.if-has_entry.true, w))
    (λ k w. w.1)
    (first_entered o g.K.Operand.lawful code grants status operands p held found (c.in_ok-entry_at.ensures.entry held refl).1 c.address_breach.ensures)
