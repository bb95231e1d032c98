-- The list reader and the item reader meet their contracts. A list of L words is read with the measure 2L, an item of L own words with 2L + 1: the item lies between the
-- list that it stands in and the list that it is read as.
use Rattle.std.proofs.Common.{◌+◌, length}
use Rattle.groups.proofs.Reading.{ReadTo}
use Rattle.groups.proofs.+read_item_read_list.Given as goal

abbrev pub decreases-read_item : goal.decreases-read_item
decreases-read_item l = length l.own.now + length l.own.now + 1

abbrev pub decreases-read_list : goal.decreases-read_list
decreases-read_list l = length l.words.now + length l.words.now

abbrev pub invariant-read_list-loop-word : goal.invariant-read_list-loop-word
invariant-read_list-loop-word l = ReadTo l.levels l.initial.end l.words l.initial.plain l.rest l.end l.plain

abbrev pub decreases-read_list-loop-word : goal.decreases-read_list-loop-word
decreases-read_list-loop-word l = length l.rest
