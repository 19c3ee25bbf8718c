-- `write::write` meets its contract.
use native.Mathlib.Omega.{arith}
use Prim.Native.Nat.{ℕ}
use mathlib.Core.List.{List}
use lib.ListN.{length-take, replicate}
use Rattle.write.proofs.Told.{told_none, told, told-short, told-many, told-whole, told-answers}
use Rattle.write.proofs.write.Goals as goal

-- The flow before the sheet is read.
abbrev zeros : List ℕ
zeros = replicate 65520 0

pub returns-in_default : goal.returns-in_default
returns-in_default c =
    told_none c.args.sheet.now c.args.room.now zeros c.read_sheet.new.flow _ c.read_sheet.ensures c.in_default.is

pub returns-then-room-count : goal.returns-then-room-count
returns-then-room-count c =
    told-short c.args.sheet.now c.args.room.now zeros c.read_sheet.new.flow _ (told c.args.sheet.now zeros c.read_sheet.new.flow _ _ c.read_sheet.ensures c.in-Some.is) c.if-room-count.true

pub returns-then-count-gt-MOST_RECORDS : goal.returns-then-count-gt-MOST_RECORDS
returns-then-count-gt-MOST_RECORDS c =
    told-many c.args.sheet.now c.args.room.now zeros c.read_sheet.new.flow _ (told c.args.sheet.now zeros c.read_sheet.new.flow _ _ c.read_sheet.ensures c.in-Some.is) c.if-room-count.false c.if-count-gt-MOST_RECORDS.true

pub slice_bounds-settle-end : goal.slice_bounds-settle-end
slice_bounds-settle-end c =
    let t = told c.args.sheet.now zeros c.read_sheet.new.flow _ _ c.read_sheet.ensures c.in-Some.is in
    rw length-take (omega (arith, c.if-count-gt-MOST_RECORDS.false, t.reaches.room))

pub settle-requires : goal.settle-requires
settle-requires c =
    told-whole c.args.sheet.now c.args.room.now zeros c.read_sheet.new.flow _ (told c.args.sheet.now zeros c.read_sheet.new.flow _ _ c.read_sheet.ensures c.in-Some.is) c.if-room-count.false c.if-count-gt-MOST_RECORDS.false

pub returns : goal.returns
returns c =
    told-answers c.args.sheet.now c.args.room.now zeros c.read_sheet.new.flow _ (told c.args.sheet.now zeros c.read_sheet.new.flow _ _ c.read_sheet.ensures c.in-Some.is) c.if-room-count.false c.if-count-gt-MOST_RECORDS.false _ _ c.settle.ensures.0 c.settle.ensures.1
