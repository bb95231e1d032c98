-- The list reader and the item reader meet their contracts.
use native.Mathlib.Omega.{arith}
use Rattle.groups.proofs.Reading.{own_follow, level_left, read_none, read_more, read_all}
use Rattle.groups.proofs.+read_item_read_list.Goals as goal

pub read_list-loop-word-init : goal.read_list-loop-word-init
read_list-loop-word-init t c = read_none _ _ _ _

pub read_list-split_at-requires : goal.read_list-split_at-requires
read_list-split_at-requires t c = own_follow _ _ _ _ c.opens-opened.ensures _ c.own_words.ensures

pub read_list-read_item-end-requires : goal.read_list-read_item-end-requires
read_list-read_item-end-requires t c =
    let read = c.loop-word.invariant in
    let follow = own_follow _ _ _ _ c.opens-opened.ensures _ c.own_words.ensures in
    let before = c.in-Some.ensures.cases.1 in
    (omega (arith, read.few, follow, before, c.split_at.ensures.front_len, c.decreases), (omega (arith, read.put.ends, read.few, follow, before, c.split_at.ensures.front_len, c.requires), level_left _ _ _ _ c.opens-opened.ensures))

pub read_list-loop-word-preserved : goal.read_list-loop-word-preserved
read_list-loop-word-preserved t c =
    read_more _ _ _ c.opens-opened.ensures c.own_words.ensures c.loop-word.invariant c.in-Some.ensures.cases.0 c.split_at.ensures.front c.split_at.ensures.back c.read_item-end.ensures

pub read_list-returns : goal.read_list-returns
read_list-returns t c = read_all c.loop-word.invariant c.in_default.ensures.cases
