-- Paper 01's bench sheet: P1 to P12 as one table, which the prover computes against the word rules.
use Rattle.std.specs.Prelude.{ℕ, ◌≡◌, refl, List, [], ◌∷◌, ◌++◌, map, set, take, drop, replicate}
use Rattle.sizes.specs.Class.{class_count, class_of, size_of, size_word}
use Rattle.words.specs.Runs.{filled, copied, stored}
use Rattle.pool.specs.Numbers.{◌or_else◌, state_of, handle_at, length_at, sound_handle, sound_head, given, too_long, over_limit}
use Rattle.pool.specs.Numbers.{entry_number, entry_number₂, bad_head, no_room, room_number, needs_block, need_number}
use Rattle.pool.specs.Blocks.{MAX, recycled, fresh, alloc, free, realloc, moved}
use Rattle.audit.specs.Audit.{Audited, audit, audit_number, verdict, accepted, swept, groups_at, class_at}
use Rattle.audit.specs.Audit.{chains_marked, chain_marked, handles_marked, and_then, marked}
use Rattle.pool.specs.Rules.{Outcome, done, refused, Call, push, extend, remove, truncate, grow_at, called, unless, number_of, done_of}
use Rattle.pool.specs.Rules.{at_number, push_done, cleared, clear_done, last_removed, grown, opened, grow_number, extend_done}
use Rattle.pool.specs.Rules.{grow_at_number, grow_at_done, remove_number, remove_done, truncate_number, truncate_done}

-- "One 16-word cleared pool, three slots": n words and three slots, cleared
unfoldable pub cleared_pool : ℕ → Outcome
cleared_pool n = done 0 (state_of 0 (replicate class_count 0)) (replicate n 0) (replicate 3 0)

-- "steps in sequence": the outcome of the last of these calls, each given what the one before it left
unfoldable pub after : Outcome → List Call → Outcome
unfolding called
after o [] = o
after o (call ∷ calls) = after (called call o.answer.state o.words o.handles) calls

-- the elements of the list in a slot
unfoldable pub list_in : Outcome → ℕ → List ℕ
list_in o slot = let h = handle_at o.handles slot in take (length_at o.words h) (drop h o.words)

-- A row: after these calls in a cleared pool of n words, this is the outcome of the last; or this list is in slot 0; or the audit, with a slot
-- set to a handle before and a map of four words, gives this number and map; or these lengths have these classes.
pub data Row : Type 0 where
  outcomes : ℕ → List Call → Outcome → Row
  lists : ℕ → List Call → List ℕ → Row
  audits : ℕ → List Call → ℕ → ℕ → ℕ → List ℕ → Row
  classes : List ℕ → List ℕ → Row

-- the audit's number and map of what calls left, with a slot set to a handle
unfoldable pub audit_after : Outcome → ℕ → ℕ → Audited
unfolding audit
audit_after o slot h = audit o.answer.state o.words (set o.handles slot h) (replicate 4 7)

-- the same row, with what the rules give
unfoldable pub computed : Row → Row
unfolding after cleared_pool list_in audit_after
computed (outcomes n calls o) = outcomes n calls (after (cleared_pool n) calls)
computed (lists n calls xs) = lists n calls (list_in (after (cleared_pool n) calls) 0)
computed (audits n calls slot h number map) =
    let a = audit_after (after (cleared_pool n) calls) slot h in
    audits n calls slot h a.answer.number a.map
computed (classes ns cs) = classes ns (map class_of ns)

-- heads 0 and 1; the others are 0
abbrev headed : ℕ → ℕ → List ℕ
headed a b = set (set (replicate class_count 0) 0 a) 1 b

abbrev to_p2 : List Call
to_p2 = push 0 7 ∷ push 0 8 ∷ push 0 9 ∷ []

abbrev to_p4 : List Call
to_p4 = to_p2 ++ (push 0 10 ∷ push 1 5 ∷ [])

abbrev to_p5 : List Call
to_p5 = to_p4 ++ (remove 0 0 ∷ [])

abbrev to_p8 : List Call
to_p8 = to_p5 ++ (extend 1 (1 ∷ 2 ∷ 3 ∷ []) ∷ [])

abbrev words_p4 : List ℕ
words_p4 = 1 ∷ 5 ∷ 8 ∷ 9 ∷ 4 ∷ 7 ∷ 8 ∷ 9 ∷ 10 ∷ MAX ∷ MAX ∷ MAX ∷ []

abbrev words_p5 : List ℕ
words_p5 = 1 ∷ 5 ∷ 8 ∷ 9 ∷ 0 ∷ 0 ∷ 9 ∷ 10 ∷ 10 ∷ MAX ∷ MAX ∷ MAX ∷ 3 ∷ 8 ∷ 9 ∷ 10 ∷ []

unfoldable pub table : List Row
table =
    -- P1 push 7 on slot 0
    outcomes 16 (push 0 7 ∷ [])
    (done 0 (state_of 4 (headed 0 0)) (1 ∷ 7 ∷ MAX ∷ MAX ∷ replicate 12 0) (1 ∷ 0 ∷ 0 ∷ []))
    -- P2 push 8, 9
    ∷ outcomes 16 to_p2
    (done 2 (state_of 4 (headed 0 0)) (3 ∷ 7 ∷ 8 ∷ 9 ∷ replicate 12 0) (1 ∷ 0 ∷ 0 ∷ []))
    -- P3 push 10
    ∷ outcomes 16 (to_p2 ++ (push 0 10 ∷ []))
    (done 3 (state_of 12 (headed 1 0)) (0 ∷ 0 ∷ 8 ∷ 9 ∷ 4 ∷ 7 ∷ 8 ∷ 9 ∷ 10 ∷ MAX ∷ MAX ∷ MAX ∷ replicate 4 0) (5 ∷ 0 ∷ 0 ∷ []))
    -- P4 push 5 on slot 1
    ∷ outcomes 16 to_p4
    (done 0 (state_of 12 (headed 0 0)) (words_p4 ++ replicate 4 0) (5 ∷ 1 ∷ 0 ∷ []))
    -- P5 remove position 0 of slot 0
    ∷ outcomes 16 to_p5
    (done 0 (state_of 16 (headed 0 5)) words_p5 (13 ∷ 1 ∷ 0 ∷ []))
    -- P6 P1 to P5 in a 12-word pool: the remove answers 7, nothing moves
    ∷ outcomes 12 to_p5
    (refused (state_of 12 (headed 0 0)) words_p4 (5 ∷ 1 ∷ 0 ∷ []) 7)
    -- P7 after P5, push on slot 2: 7, although 8 words are free in class 1
    ∷ outcomes 16 (to_p5 ++ (push 2 1 ∷ []))
    (refused (state_of 16 (headed 0 5)) words_p5 (13 ∷ 1 ∷ 0 ∷ []) 7)
    -- P8 after P5, extend slot 1 by 1,2,3
    ∷ outcomes 16 to_p8
    (done 0 (state_of 16 (headed 1 0)) (0 ∷ 0 ∷ 8 ∷ 9 ∷ 4 ∷ 5 ∷ 1 ∷ 2 ∷ 3 ∷ MAX ∷ MAX ∷ MAX ∷ 3 ∷ 8 ∷ 9 ∷ 10 ∷ []) (13 ∷ 5 ∷ 0 ∷ []))
    -- its audit map
    ∷ audits 16 to_p8 2 0 0 (2147483648 ∷ 2 ∷ 0 ∷ 1 ∷ [])
    -- P9 P8 with slot 2 set to 5: audit 9, and the map words become 0
    ∷ audits 16 to_p8 2 5 9 (0 ∷ 0 ∷ 0 ∷ 0 ∷ [])
    -- P10 lengths and classes
    ∷ classes (1 ∷ 3 ∷ 4 ∷ 7 ∷ 8 ∷ 65535 ∷ []) (0 ∷ 0 ∷ 1 ∷ 1 ∷ 2 ∷ 14 ∷ [])
    -- P11 after P8, truncate slot 1 to 3
    ∷ outcomes 16 (to_p8 ++ (truncate 1 3 ∷ []))
    (done 0 (state_of 16 (headed 0 5)) (3 ∷ 5 ∷ 1 ∷ 2 ∷ 0 ∷ 0 ∷ 1 ∷ 2 ∷ 3 ∷ MAX ∷ MAX ∷ MAX ∷ 3 ∷ 8 ∷ 9 ∷ 10 ∷ []) (13 ∷ 1 ∷ 0 ∷ []))
    -- P12 list 7,8 in a fresh block, `grow_at` 0 by 1
    ∷ lists 16 (push 0 7 ∷ push 0 8 ∷ grow_at 0 0 1 ∷ []) (7 ∷ 7 ∷ 8 ∷ [])
    ∷ []

-- every row is what the rules give
pub sheet : map computed table ≡ table
unfolding table computed audit audit_number verdict accepted swept groups_at class_at chains_marked chain_marked handles_marked and_then marked
    called unless number_of done_of at_number push_done cleared clear_done last_removed grown opened grow_number extend_done
    grow_at_number grow_at_done remove_number remove_done truncate_number truncate_done
    ◌or_else◌ length_at sound_handle sound_head given too_long over_limit entry_number entry_number₂ bad_head no_room room_number needs_block need_number
    recycled fresh alloc free realloc moved filled copied stored class_of size_of size_word
sheet = refl
