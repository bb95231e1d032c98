-- `replay::room::numbers` meets its contract.
use Rattle.replay.proofs.Rooms.{numbers_had, numbers_none}
use Rattle.replay.proofs.room.numbers.Goals as goal

pub returns-then-n-le-ROOM : goal.returns-then-n-le-ROOM
returns-then-n-le-ROOM c = numbers_had 640 c.args.«record».now c.args.at c.args.n c.fill.new.numbers c.if-n-le-ROOM.true c.fill.ensures

pub returns-else-n-le-ROOM : goal.returns-else-n-le-ROOM
returns-else-n-le-ROOM c = numbers_none 640 c.args.«record».now c.args.at c.args.n c.if-n-le-ROOM.false
