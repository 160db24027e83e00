-- Rows beside the bench sheet, which the prover computes against the word rules: where several numbers apply, the lowest is given; what each call
-- gives and leaves where it is done; the order of reading and writing where blocks overlap. Most are on states that no call leaves.
use Rattle.std.specs.Prelude.{ℕ, ◌≡◌, refl, List, [], ◌∷◌, ◌++◌, map, set, replicate}
use Rattle.sizes.specs.Class.{class_count, class_of, size_of}
use Rattle.words.specs.Runs.{filled, copied, stored}
use Rattle.pool.specs.Numbers.{◌or_else◌, state_of, length_at, sound_handle, sound_head, given, too_long, over_limit, entry_number, entry_number₂}
use Rattle.pool.specs.Numbers.{bad_head, no_room}
use Rattle.pool.specs.Numbers.{room_number, needs_block, need_number}
use Rattle.pool.specs.Blocks.{recycled, fresh, alloc, free, realloc, moved}
use Rattle.pool.specs.Rules.{Call, from_slice, is_empty, len, is_valid, get, first, set_at, deep_clone, clear, take, push, extend, copy_from, insert, remove}
use Rattle.pool.specs.Rules.{swap_remove, truncate, grow_at, clear_pool, called, unless, number_of, done_of, cleared, last_removed, grown, opened, at_number}
use Rattle.pool.specs.Rules.{take_number, from_slice_number, from_slice_done, is_empty_done, len_done, is_valid_done, get_done, set_done}
use Rattle.pool.specs.Rules.{deep_clone_number, deep_clone_done, clear_done, take_done, grow_number, push_done, extend_done, grow_at_number}
use Rattle.pool.specs.Rules.{copy_from_number, copy_from_done, insert_done, remove_number}
use Rattle.pool.specs.Rules.{remove_done, swap_remove_done, truncate_number, truncate_done, grow_at_done, clear_pool_number, clear_pool_done}

-- what a call is given beside its arguments, and what it leaves: used, the heads, the pool's words, the handles
pub data World : Type 0 where
  world : ℕ → List ℕ → List ℕ → List ℕ → World

-- a call on a world: its number, its value, and the world that it leaves
pub data Row : Type 0 where
  row : Call → World → ℕ → ℕ → World → Row

-- the same row, with what the rules give
unfoldable pub computed : Row → Row
unfolding
    called unless number_of done_of cleared last_removed grown opened at_number take_number from_slice_number from_slice_done is_empty_done len_done
    is_valid_done get_done set_done deep_clone_number deep_clone_done clear_done take_done grow_number push_done extend_done grow_at_number
    copy_from_number copy_from_done insert_done remove_number remove_done swap_remove_done truncate_number truncate_done grow_at_done
    clear_pool_number clear_pool_done ◌or_else◌ length_at sound_handle sound_head given too_long over_limit entry_number entry_number₂ bad_head
    no_room room_number needs_block need_number recycled fresh alloc free realloc moved filled copied stored class_of size_of
computed (row call (world used heads ws hs) number value after) =
    let o = called call (state_of used heads) ws hs in
    let st = o.answer.state in
    row call (world used heads ws hs) o.answer.number o.answer.value (world st.used st.heads o.words o.handles)

-- "A refused call returns 0 as its value and changes nothing": these calls are refused with the number n
unfoldable pub refusing : ℕ → World → List Call → List Row
refusing n w calls = map (λ call. row call w n 0 w) calls

-- these calls are done, give a value and change nothing
unfoldable pub giving : ℕ → World → List Call → List Row
giving value w calls = map (λ call. row call w 0 value w) calls

-- these calls are done, give 0 and leave another world
unfoldable pub leaving : World → World → List Call → List Row
leaving w after calls = map (λ call. row call w 0 0 after) calls

-- "M is MAX"
abbrev M : ℕ
M = 4294967295

-- the heads of the classes 0, 1 and 2; the others are 0
abbrev headed : ℕ → ℕ → ℕ → List ℕ
headed a b c = set (set (set (replicate class_count 0) 0 a) 1 b) 2 c

-- "THE LOWEST NUMBER THAT APPLIES IS GIVEN"

-- twelve words, all used: a list of three, and a list of four whose elements are 3, 4, 0, 12
abbrev twelve : List ℕ
twelve = 3 ∷ 7 ∷ 8 ∷ 9 ∷ 4 ∷ 3 ∷ 4 ∷ 0 ∷ 12 ∷ M ∷ M ∷ M ∷ []

-- Slot 0 is the list of three, slot 1 that of four, slot 2 is empty. The handles 6, 7 and 8 do not leave 1 on division by 4, so slots 3, 4 and 5 are
-- not sound; the words before these handles, their lengths, are 3, 4 and 0. Slot 6 is not in the table.
abbrev six : List ℕ
six = 1 ∷ 5 ∷ 0 ∷ 6 ∷ 7 ∷ 8 ∷ []

-- 7 applies where a block is needed
abbrev full : World
full = world 12 (headed 0 0 0) twelve six

-- 6 applies where a block is needed: a head of 2 does not leave 1 on division by 4
abbrev bad_heads : World
bad_heads = world 12 (headed 2 2 2) twelve six

-- 1 applies: used is not a multiple of 4
abbrev not_by_four : World
not_by_four = world 10 (headed 2 2 2) twelve six

-- 1 applies: used is above the pool's length
abbrev beyond : World
beyond = world 16 (headed 2 2 2) twelve six

abbrev nine : List ℕ
nine = 9 ∷ []

-- every call but the pool's clear, on one slot
abbrev every : ℕ → List Call
every slot =
    from_slice slot nine ∷ is_empty slot ∷ len slot ∷ is_valid slot ∷ get slot 0 ∷ first slot ∷ set_at slot 0 9 ∷ deep_clone slot slot ∷ clear slot
    ∷ take slot slot ∷ push slot 9 ∷ extend slot nine ∷ copy_from slot slot 0 0 0 ∷ insert slot 0 9 ∷ remove slot 0 ∷ swap_remove slot 0
    ∷ truncate slot 3 ∷ grow_at slot 0 1 ∷ []

-- the calls that name two slots, on these two
abbrev both : ℕ → ℕ → List Call
both slot other = deep_clone slot other ∷ take slot other ∷ copy_from slot other 0 0 0 ∷ []

-- calls that need a block, and whose slot is not in the table
abbrev needing₂ : List Call
needing₂ = from_slice 6 nine ∷ deep_clone 0 6 ∷ push 6 9 ∷ extend 6 nine ∷ copy_from 6 0 0 1 0 ∷ insert 6 0 9 ∷ grow_at 6 0 1 ∷ []

-- calls that need a block, and whose handle is not sound
abbrev needing₃ : List Call
needing₃ =
    deep_clone 3 2 ∷ push 3 9 ∷ extend 3 nine ∷ copy_from 3 0 0 1 0 ∷ copy_from 0 3 0 1 0 ∷ insert 3 0 9 ∷ grow_at 3 0 1 ∷ remove 4 0 ∷ swap_remove 4 0
    ∷ truncate 4 3 ∷ []

-- calls that need a block, and whose position or range lies outside the list
abbrev needing₄ : List Call
needing₄ = copy_from 0 1 0 1 4 ∷ copy_from 0 1 4 5 0 ∷ insert 0 4 9 ∷ grow_at 0 4 1 ∷ remove 1 4 ∷ swap_remove 1 4 ∷ []

-- calls that need a block, and whose slots clash
abbrev needing₅ : List Call
needing₅ = from_slice 0 nine ∷ deep_clone 1 0 ∷ copy_from 0 0 0 1 0 ∷ []

-- calls that need a block, and are else not refused
abbrev needing : List Call
needing =
    from_slice 2 nine ∷ deep_clone 0 2 ∷ push 0 9 ∷ extend 0 nine ∷ copy_from 0 1 0 1 3 ∷ insert 0 3 9 ∷ grow_at 0 3 1 ∷ remove 1 3 ∷ swap_remove 1 3
    ∷ truncate 1 3 ∷ []

-- Neighbouring numbers: both apply, and the lower is given; each pair for every call that can have both.
unfoldable pub lowest : List Row
unfolding refusing
lowest =
    -- 1 before 2, 1 before 3
    refusing 1 not_by_four (every 6 ++ both 0 6 ++ both 6 0)
    ++ refusing 1 not_by_four (every 3 ++ both 0 3 ++ both 3 0)
    ++ refusing 1 beyond (every 6 ++ both 0 6 ++ both 6 0)
    ++ refusing 1 beyond (every 3 ++ both 0 3 ++ both 3 0)
    -- 2 before 3: never both on one slot, since a slot not in the table has handle 0, which is sound; on two slots, both ways round
    ++ refusing 2 full (both 3 6 ++ both 6 3)
    -- 2 before 4: a position; for `copy_from` the end of the range too, and a range that ends before it starts
    ++ refusing 2 full (get 6 0 ∷ first 6 ∷ set_at 6 0 9 ∷ insert 6 1 9 ∷ grow_at 6 1 0 ∷ remove 6 0 ∷ swap_remove 6 0 ∷ [])
    ++ refusing 2 full (copy_from 6 0 0 0 1 ∷ copy_from 0 6 0 0 4 ∷ copy_from 0 6 0 1 0 ∷ copy_from 6 0 0 4 0 ∷ copy_from 0 6 1 0 0 ∷ copy_from 6 0 1 0 0 ∷ [])
    -- 2 before 5: never both for `from_slice`, as 2 and 3; the same slot twice, a target that is not empty, equal handles
    ++ refusing 2 full (take 6 6 ∷ take 6 0 ∷ deep_clone 6 0 ∷ copy_from 6 6 0 0 0 ∷ copy_from 2 6 0 0 0 ∷ copy_from 6 2 0 0 0 ∷ [])
    -- 2 before 6, 2 before 7: never both for `remove`, `swap_remove` and `truncate`, which need no block for an empty list
    ++ refusing 2 bad_heads needing₂
    ++ refusing 2 full needing₂
    -- 3 before 4
    ++ refusing 3 full (get 3 3 ∷ first 5 ∷ set_at 3 3 9 ∷ insert 3 4 9 ∷ grow_at 3 4 0 ∷ remove 3 3 ∷ swap_remove 3 3 ∷ [])
    ++ refusing 3 full (copy_from 3 0 0 0 4 ∷ copy_from 0 3 0 0 4 ∷ copy_from 0 3 0 4 0 ∷ copy_from 3 0 0 4 0 ∷ copy_from 0 3 1 0 0 ∷ copy_from 3 0 1 0 0 ∷ [])
    -- 3 before 5
    ++ refusing 3 full (from_slice 3 nine ∷ both 3 3 ++ deep_clone 0 3 ∷ deep_clone 3 0 ∷ take 0 3 ∷ take 3 0 ∷ [])
    -- 3 before 6, 3 before 7
    ++ refusing 3 bad_heads needing₃
    ++ refusing 3 full needing₃
    -- 4 before 5: `copy_from` alone has both
    ++ refusing 4 full (copy_from 0 0 0 0 4 ∷ copy_from 0 0 0 4 0 ∷ copy_from 0 0 1 0 0 ∷ copy_from 2 2 0 0 1 ∷ copy_from 2 2 0 1 0 ∷ copy_from 2 2 1 0 0 ∷ [])
    -- 4 before 6, 4 before 7
    ++ refusing 4 bad_heads needing₄
    ++ refusing 4 full needing₄
    -- 5 before 6, 5 before 7
    ++ refusing 5 bad_heads needing₅
    ++ refusing 5 full needing₅
    -- 6, 7: never both. 6 wants a head other than 0 and a length up to 65,535; 7 a head of 0, or a longer length
    ++ refusing 6 bad_heads needing
    ++ refusing 7 full needing

-- The causes of each number, where no lower one applies.
unfoldable pub causes : List Row
unfolding refusing
causes =
    -- 2, 3 of every call
    refusing 2 full (every 6 ++ both 2 6 ++ both 6 2)
    ++ refusing 3 full (every 3 ++ both 2 3 ++ both 3 2)
    -- 3: handles that leave 2, 3 and 0 on division by 4; a length of 0; a block that ends past used; a handle past used; a handle past the pool
    ++ refusing 3 (world 12 (headed 0 0 0) (replicate 12 1) (2 ∷ 3 ∷ 4 ∷ [])) (len 0 ∷ len 1 ∷ len 2 ∷ [])
    ++ refusing 3 (world 4 (headed 0 0 0) (0 ∷ 7 ∷ 8 ∷ 9 ∷ []) (1 ∷ [])) (len 0 ∷ [])
    ++ refusing 3 (world 4 (headed 0 0 0) (4 ∷ 7 ∷ 8 ∷ 9 ∷ 3 ∷ 7 ∷ 8 ∷ 9 ∷ []) (1 ∷ 5 ∷ 9 ∷ [])) (len 0 ∷ len 1 ∷ len 2 ∷ [])
    -- 4: a position at the length, or past it
    ++ refusing 4 full (get 0 3 ∷ first 2 ∷ set_at 0 3 9 ∷ remove 0 3 ∷ swap_remove 0 3 ∷ insert 1 5 9 ∷ grow_at 1 5 0 ∷ [])
    -- 4: the target's position in `copy_from`; a range that ends past its list; one that ends before it starts
    ++ refusing 4 full (copy_from 1 0 0 0 5 ∷ copy_from 1 0 2 4 0 ∷ copy_from 1 0 1 0 0 ∷ [])
    -- 5: of nothing, and of an empty list; a list into itself; into the same slot, empty or not; into a slot that is not empty
    ++ refusing 5 full (from_slice 0 [] ∷ deep_clone 2 0 ∷ deep_clone 0 0 ∷ take 2 2 ∷ take 0 0 ∷ take 2 0 ∷ take 0 1 ∷ [])
    -- 5: equal handles, of one slot and of two; two empty lists
    ++ refusing 5 (world 4 (headed 0 0 0) (3 ∷ 7 ∷ 8 ∷ 9 ∷ []) (1 ∷ 1 ∷ 0 ∷ 0 ∷ [])) (both 0 0 ++ copy_from 0 1 0 0 0 ∷ copy_from 2 3 0 0 0 ∷ [])
    -- 6: heads that leave 2, 3 and 0 on division by 4; a head whose word before it is not 0; heads whose block ends past used
    ++ refusing 6 (world 24 (headed 2 3 4) (replicate 24 0) (0 ∷ [])) (push 0 9 ∷ grow_at 0 0 4 ∷ grow_at 0 0 8 ∷ [])
    ++ refusing 6 (world 4 (headed 1 0 0) (5 ∷ replicate 15 0) (0 ∷ [])) (push 0 9 ∷ [])
    ++ refusing 6 (world 4 (headed 5 1 0) (replicate 16 0) (0 ∷ [])) (push 0 9 ∷ grow_at 0 0 4 ∷ [])
    -- 7: a length over 65,535, whatever the heads
    ++ refusing 7 bad_heads (grow_at 0 0 65533 ∷ grow_at 2 0 65536 ∷ [])
    -- 1 alone: used not a multiple of 4, whatever it leaves; used above the pool's length
    ++ refusing 1 (world 9 (headed 0 0 0) twelve six) (is_valid 0 ∷ is_valid 2 ∷ [])
    ++ refusing 1 (world 10 (headed 0 0 0) twelve six) (is_valid 0 ∷ is_valid 2 ∷ [])
    ++ refusing 1 (world 11 (headed 0 0 0) twelve six) (is_valid 0 ∷ is_valid 2 ∷ [])
    ++ refusing 1 (world 16 (headed 0 0 0) twelve six) (is_valid 0 ∷ is_valid 2 ∷ [])

-- A pool or a table over its limit: 1, before 2, and for the pool's clear; at the limits, not.
unfoldable pub limits : List Row
unfolding refusing giving
limits =
    refusing 1 (world 0 (headed 0 0 0) (replicate 65537 0) []) (clear_pool ∷ every 0)
    ++ refusing 1 (world 0 (headed 0 0 0) [] (replicate 16385 0)) (clear_pool ∷ every 16385)
    ++ giving 1 (world 65536 (headed 0 0 0) (replicate 65536 0) (replicate 16384 0)) (is_valid 16383 ∷ [])

-- WHAT EACH CALL GIVES AND LEAVES

abbrev spare : List ℕ
spare = 0 ∷ 0 ∷ 5 ∷ 6 ∷ []

abbrev three : List ℕ
three = 3 ∷ 7 ∷ 8 ∷ 9 ∷ []

abbrev four : List ℕ
four = 4 ∷ 10 ∷ 11 ∷ 12 ∷ 13 ∷ M ∷ M ∷ M ∷ []

abbrev one : List ℕ
one = 1 ∷ 14 ∷ M ∷ M ∷ []

-- twenty words, all used: a free block of class 0, and the lists of slots 0, 1 and 3; slot 2 is empty
abbrev lists : World
lists = world 20 (headed 1 0 0) (spare ++ three ++ four ++ one) (5 ∷ 9 ∷ 0 ∷ 17 ∷ [])

-- the same with other words in slot 0's block; in slot 1's
abbrev three_is : List ℕ → World
three_is block = world 20 (headed 1 0 0) (spare ++ block ++ four ++ one) (5 ∷ 9 ∷ 0 ∷ 17 ∷ [])

abbrev four_is : List ℕ → World
four_is block = world 20 (headed 1 0 0) (spare ++ three ++ block ++ one) (5 ∷ 9 ∷ 0 ∷ 17 ∷ [])

-- slot 2 has the block that was free
abbrev taken : List ℕ → World
taken block = world 20 (headed 0 0 0) (block ++ three ++ four ++ one) (5 ∷ 9 ∷ 1 ∷ 17 ∷ [])

-- slot 1 has it, and its own is free
abbrev down : List ℕ → List ℕ → World
down block old = world 20 (headed 0 9 0) (block ++ three ++ old ++ one) (5 ∷ 1 ∷ 0 ∷ 17 ∷ [])

-- sixteen words, all used: the lists of slots 0 and 1 with a free block of class 1 between them; slot 2 is empty
abbrev roomy : World
roomy = world 16 (headed 0 5 0) (three ++ (0 ∷ 0 ∷ 31 ∷ 32 ∷ 33 ∷ 34 ∷ 35 ∷ 36 ∷ []) ++ one) (1 ∷ 13 ∷ 0 ∷ [])

-- slot 0 has the block that was free, and its own is free
abbrev up : List ℕ → World
up block = world 16 (headed 1 0 0) ((0 ∷ 0 ∷ 8 ∷ 9 ∷ []) ++ block ++ one) (5 ∷ 13 ∷ 0 ∷ [])

-- twelve words, four of them used: the list of slot 0; slot 1 is empty
abbrev bare : World
bare = world 4 (headed 0 0 0) (three ++ replicate 8 5) (1 ∷ 0 ∷ [])

-- slot 1 has the first block behind used
abbrev begun : List ℕ → World
begun block = world 8 (headed 0 0 0) (three ++ block ++ replicate 4 5) (1 ∷ 5 ∷ [])

unfoldable pub deeds : List Row
unfolding giving leaving
deeds =
    -- `is_empty` "gives 1 for handle 0, else 0", `is_valid` 1, `len` "the stored length (0 for handle 0)", `get` and `first` "the element's word"
    giving 0 lists (is_empty 0 ∷ len 2 ∷ [])
    ++ giving 1 lists (is_empty 2 ∷ is_valid 0 ∷ is_valid 2 ∷ len 3 ∷ [])
    ++ giving 4 lists (len 1 ∷ [])
    ++ giving 10 lists (get 1 0 ∷ first 1 ∷ [])
    ++ giving 12 lists (get 1 2 ∷ [])
    -- where there is nothing to do, 0; and no head is looked at
    ++ giving 0 lists (from_slice 2 [] ∷ deep_clone 2 2 ∷ clear 2 ∷ extend 0 [] ∷ extend 2 [] ∷ copy_from 0 1 2 2 1 ∷ copy_from 2 0 3 3 0 ∷ [])
    ++ giving 0 lists (grow_at 0 1 0 ∷ grow_at 2 0 0 ∷ truncate 0 3 ∷ truncate 0 4 ∷ truncate 2 0 ∷ truncate 2 5 ∷ [])
    ++ giving 0 bad_heads (from_slice 2 [] ∷ deep_clone 2 2 ∷ clear 2 ∷ extend 0 [] ∷ extend 2 [] ∷ copy_from 0 1 2 2 1 ∷ copy_from 2 0 3 3 0 ∷ [])
    ++ giving 0 bad_heads (grow_at 0 1 0 ∷ grow_at 2 0 0 ∷ truncate 0 3 ∷ truncate 0 4 ∷ truncate 2 0 ∷ truncate 2 5 ∷ [])
    -- "setting writes that word alone"
    ++ leaving lists (four_is (4 ∷ 10 ∷ 11 ∷ 99 ∷ 13 ∷ M ∷ M ∷ M ∷ [])) (set_at 1 2 99 ∷ [])
    -- "`take` moves the handle to the other slot and leaves 0"
    ++ leaving lists (world 20 (headed 1 0 0) (spare ++ three ++ four ++ one) (0 ∷ 9 ∷ 5 ∷ 17 ∷ [])) (take 0 2 ∷ [])
    -- "with a head h, the head becomes the word at h and the block is h - 1, its words untouched"
    ++ leaving lists (taken (2 ∷ 21 ∷ 22 ∷ 6 ∷ [])) (from_slice 2 (21 ∷ 22 ∷ []) ∷ extend 2 (21 ∷ 22 ∷ []) ∷ [])
    ++ leaving lists (taken (1 ∷ 21 ∷ 5 ∷ 6 ∷ [])) (push 2 21 ∷ insert 2 0 21 ∷ [])
    ++ leaving lists (taken (2 ∷ 0 ∷ 5 ∷ 6 ∷ [])) (grow_at 2 0 2 ∷ [])
    ++ leaving lists (taken three) (deep_clone 0 2 ∷ copy_from 2 0 0 3 0 ∷ [])
    -- "Else the block starts at used, all its words become MAX, used grows": a block of class 0; one of class 1, to the end of the pool
    ++ leaving bare (begun (1 ∷ 9 ∷ M ∷ M ∷ [])) (from_slice 1 nine ∷ push 1 9 ∷ extend 1 nine ∷ insert 1 0 9 ∷ copy_from 1 0 2 3 0 ∷ [])
    ++ leaving bare (begun (2 ∷ M ∷ M ∷ M ∷ [])) (grow_at 1 0 2 ∷ [])
    ++ leaving bare (begun three) (deep_clone 0 1 ∷ [])
    ++ leaving bare (world 12 (headed 0 0 0) (three ++ (4 ∷ replicate 7 M)) (1 ∷ 5 ∷ [])) (grow_at 1 0 4 ∷ [])
    ++ row (push 0 21) bare 0 3 (world 12 (headed 1 0 0) (0 ∷ 0 ∷ 8 ∷ 9 ∷ 4 ∷ 7 ∷ 8 ∷ 9 ∷ 21 ∷ M ∷ M ∷ M ∷ []) (5 ∷ 0 ∷ []))
    -- in the list's own block: "`push` returns the old length", the others give 0
    ∷ row (push 1 21) lists 0 4 (four_is (5 ∷ 10 ∷ 11 ∷ 12 ∷ 13 ∷ 21 ∷ M ∷ M ∷ []))
    ∷ leaving lists (four_is (6 ∷ 10 ∷ 11 ∷ 12 ∷ 13 ∷ 21 ∷ 22 ∷ M ∷ [])) (extend 1 (21 ∷ 22 ∷ []) ∷ [])
    ++ leaving lists (four_is (6 ∷ 10 ∷ 8 ∷ 9 ∷ 11 ∷ 12 ∷ 13 ∷ M ∷ [])) (copy_from 1 0 1 3 1 ∷ [])
    ++ leaving lists (four_is (5 ∷ 10 ∷ 21 ∷ 11 ∷ 12 ∷ 13 ∷ M ∷ M ∷ [])) (insert 1 1 21 ∷ [])
    ++ leaving lists (four_is (6 ∷ 10 ∷ 11 ∷ 12 ∷ 11 ∷ 12 ∷ 13 ∷ M ∷ [])) (grow_at 1 1 2 ∷ [])
    ++ leaving lists (three_is (2 ∷ 8 ∷ 9 ∷ 9 ∷ [])) (remove 0 0 ∷ [])
    ++ leaving lists (three_is (2 ∷ 9 ∷ 8 ∷ 7 ∷ [])) (swap_remove 0 0 ∷ [])
    ++ leaving lists (three_is (2 ∷ 7 ∷ 8 ∷ 9 ∷ [])) (truncate 0 2 ∷ remove 0 2 ∷ swap_remove 0 2 ∷ [])
    -- one class up, "copying length + 1 words"
    ++ row (push 0 21) roomy 0 3 (up (4 ∷ 7 ∷ 8 ∷ 9 ∷ 21 ∷ 34 ∷ 35 ∷ 36 ∷ []))
    ∷ leaving roomy (up (5 ∷ 7 ∷ 8 ∷ 9 ∷ 21 ∷ 22 ∷ 35 ∷ 36 ∷ [])) (extend 0 (21 ∷ 22 ∷ []) ∷ [])
    ++ leaving roomy (up (4 ∷ 7 ∷ 14 ∷ 8 ∷ 9 ∷ 34 ∷ 35 ∷ 36 ∷ [])) (copy_from 0 1 0 1 1 ∷ insert 0 1 14 ∷ [])
    ++ leaving roomy (up (5 ∷ 7 ∷ 8 ∷ 9 ∷ 8 ∷ 9 ∷ 35 ∷ 36 ∷ [])) (grow_at 0 1 2 ∷ [])
    -- one class down, "copying old-length words"; `truncate` "copying new length + 1 words"
    ++ leaving lists (down (3 ∷ 10 ∷ 12 ∷ 13 ∷ []) (0 ∷ 0 ∷ 12 ∷ 13 ∷ 13 ∷ M ∷ M ∷ M ∷ [])) (remove 1 1 ∷ [])
    ++ leaving lists (down (3 ∷ 10 ∷ 13 ∷ 12 ∷ []) (0 ∷ 0 ∷ 13 ∷ 12 ∷ 11 ∷ M ∷ M ∷ M ∷ [])) (swap_remove 1 1 ∷ [])
    ++ leaving lists (down (2 ∷ 10 ∷ 11 ∷ 6 ∷ []) (0 ∷ 0 ∷ 11 ∷ 12 ∷ 13 ∷ M ∷ M ∷ M ∷ [])) (truncate 1 2 ∷ [])
    -- to no element: "`clear` frees the block, if any, and sets the handle to 0"
    ++ leaving lists (world 20 (headed 5 0 0) (spare ++ (0 ∷ 1 ∷ 8 ∷ 9 ∷ []) ++ four ++ one) (0 ∷ 9 ∷ 0 ∷ 17 ∷ [])) (clear 0 ∷ truncate 0 0 ∷ [])
    ++ leaving lists (world 20 (headed 17 0 0) (spare ++ three ++ four ++ (0 ∷ 1 ∷ M ∷ M ∷ [])) (5 ∷ 9 ∷ 0 ∷ 0 ∷ [])) (remove 3 0 ∷ swap_remove 3 0 ∷ [])
    -- no head is looked at: the old one is stored, whatever it is
    ++ leaving (world 4 (headed 2 2 2) one (1 ∷ [])) (world 4 (headed 1 2 2) (0 ∷ 2 ∷ M ∷ M ∷ []) (0 ∷ []))
    (clear 0 ∷ truncate 0 0 ∷ remove 0 0 ∷ swap_remove 0 0 ∷ [])
    -- "Pool `clear` sets used, heads and all handles to 0 and touches no pool word (used and heads within limits are not required for it"
    ++ leaving lists (world 0 (headed 0 0 0) (spare ++ three ++ four ++ one) (replicate 4 0)) (clear_pool ∷ [])
    -- "15 heads, one a class"
    ++ leaving (world 3 (headed 9 9 9) (8 ∷ 8 ∷ []) (5 ∷ [])) (world 0 (replicate 15 0) (8 ∷ 8 ∷ []) (0 ∷ [])) (clear_pool ∷ [])
    -- `insert` writes nothing behind its list
    ++ leaving (world 8 (headed 0 0 0) ((2 ∷ 7 ∷ 8 ∷ M ∷ []) ++ one) (1 ∷ 5 ∷ [])) (world 8 (headed 0 0 0) ((3 ∷ 6 ∷ 7 ∷ 8 ∷ []) ++ one) (1 ∷ 5 ∷ []))
    (insert 0 0 6 ∷ [])
    -- an empty list into another empty slot
    ++ giving 0 (world 0 (headed 0 0 0) [] (0 ∷ 0 ∷ [])) (take 0 1 ∷ deep_clone 0 1 ∷ [])
    -- one class up from a block that is not full: its excess words are not copied
    ++ leaving roomy
    (world 16 (headed 13 0 0) (three ++ (4 ∷ 14 ∷ 31 ∷ 32 ∷ 33 ∷ 34 ∷ 35 ∷ 36 ∷ []) ++ (0 ∷ 0 ∷ M ∷ M ∷ [])) (1 ∷ 5 ∷ 0 ∷ [])) (grow_at 1 1 3 ∷ [])
    -- two classes up
    ++ leaving (world 4 (headed 0 0 0) (three ++ replicate 16 5) (1 ∷ []))
    (world 20 (headed 1 0 0) ((0 ∷ 0 ∷ 8 ∷ 9 ∷ []) ++ (8 ∷ 7 ∷ 8 ∷ 9 ∷ 1 ∷ 2 ∷ 3 ∷ 4 ∷ 5 ∷ []) ++ replicate 7 M) (5 ∷ []))
    (extend 0 (1 ∷ 2 ∷ 3 ∷ 4 ∷ 5 ∷ []) ∷ [])
    -- a block of class 1 goes on the chain of class 1
    ++ leaving lists (world 20 (headed 1 9 0) (spare ++ three ++ (0 ∷ 0 ∷ 11 ∷ 12 ∷ 13 ∷ M ∷ M ∷ M ∷ []) ++ one) (5 ∷ 0 ∷ 0 ∷ 17 ∷ []))
    (clear 1 ∷ truncate 1 0 ∷ [])
    -- all heads become 0
    ++ leaving (world 3 (replicate 15 9) [] (5 ∷ [])) (world 0 (replicate 15 0) [] (0 ∷ [])) (clear_pool ∷ [])

-- THE ORDER OF READING AND WRITING, WHERE BLOCKS OVERLAP

-- a list of three in the second half of a free block of class 1
abbrev three_within : World
three_within = world 8 (headed 13 1 0) (0 ∷ 33 ∷ 31 ∷ 32 ∷ 3 ∷ 7 ∷ 8 ∷ 9 ∷ []) (5 ∷ [])

-- it has moved to that block, and its own is free
abbrev three_moved : List ℕ → World
three_moved ws = world 8 (headed 5 33 0) ws (1 ∷ [])

-- a list of eight; at its fourth element, which is 0, begin a free block of class 0 and one of class 1
abbrev eight : World
eight = world 16 (headed 5 5 13) (8 ∷ 21 ∷ 22 ∷ 23 ∷ 0 ∷ 25 ∷ 26 ∷ 27 ∷ 28 ∷ replicate 7 M) (1 ∷ [])

unfoldable pub overlaps : List Row
unfolding leaving
overlaps =
    -- the old block is freed after its words are read: word 1 is 7, not 13; the element is written after that: word 4 is 21, not 0
    row (push 0 21) three_within 0 3 (three_moved (4 ∷ 7 ∷ 8 ∷ 9 ∷ 21 ∷ 13 ∷ 8 ∷ 9 ∷ []))
    ∷ leaving three_within (three_moved (4 ∷ 7 ∷ 8 ∷ 9 ∷ 21 ∷ 13 ∷ 8 ∷ 9 ∷ [])) (extend 0 (21 ∷ []) ∷ insert 0 3 21 ∷ [])
    ++ leaving three_within (three_moved (4 ∷ 21 ∷ 7 ∷ 8 ∷ 9 ∷ 13 ∷ 8 ∷ 9 ∷ [])) (insert 0 0 21 ∷ [])
    -- the opened place keeps what stood there: the first word of the freed block
    ++ leaving three_within (three_moved (4 ∷ 7 ∷ 8 ∷ 9 ∷ 0 ∷ 13 ∷ 8 ∷ 9 ∷ [])) (grow_at 0 3 1 ∷ [])
    -- the old block is freed after its words are written to the new one: words 4 and 5 are 0 and 13, not 24 and 25
    ++ row (push 0 28)
    (world 16 (headed 0 13 1) (0 ∷ 33 ∷ 31 ∷ 32 ∷ 7 ∷ 21 ∷ 22 ∷ 23 ∷ 24 ∷ 25 ∷ 26 ∷ 27 ∷ 34 ∷ 35 ∷ 36 ∷ 37 ∷ []) (5 ∷ [])) 0 7
    (world 16 (headed 0 5 33) (8 ∷ 21 ∷ 22 ∷ 23 ∷ 0 ∷ 13 ∷ 26 ∷ 27 ∷ 28 ∷ 25 ∷ 26 ∷ 27 ∷ 34 ∷ 35 ∷ 36 ∷ 37 ∷ []) (1 ∷ []))
    ∷ leaving (world 20 (headed 0 1 13) (0 ∷ 33 ∷ 31 ∷ 32 ∷ 8 ∷ 21 ∷ 22 ∷ 23 ∷ 24 ∷ 25 ∷ 26 ∷ 27 ∷ 28 ∷ replicate 7 M) (5 ∷ []))
    (world 20 (headed 0 33 5) (7 ∷ 21 ∷ 22 ∷ 23 ∷ 0 ∷ 13 ∷ 26 ∷ 27 ∷ 24 ∷ 25 ∷ 26 ∷ 27 ∷ 28 ∷ replicate 7 M) (1 ∷ []))
    (remove 0 7 ∷ swap_remove 0 7 ∷ truncate 0 7 ∷ [])
    -- the word at the head is read before the copy: head 2 is 25, not 21; all words are read before any is written: word 8 is 0, not 7
    ++ row (push 0 28) (world 20 (headed 0 13 5) (7 ∷ 21 ∷ 22 ∷ 23 ∷ 0 ∷ 25 ∷ 26 ∷ 27 ∷ replicate 12 9) (1 ∷ [])) 0 7
    (world 20 (headed 0 1 25) (0 ∷ 13 ∷ 22 ∷ 23 ∷ 8 ∷ 21 ∷ 22 ∷ 23 ∷ 0 ∷ 25 ∷ 26 ∷ 27 ∷ 28 ∷ replicate 7 9) (5 ∷ []))
    -- the word at the head is read after `remove` and `swap_remove` have changed the list: head 1 is 26 and 28, not 25; `truncate` changes nothing first
    ∷ leaving eight (world 16 (headed 5 26 1) (0 ∷ 13 ∷ 23 ∷ 0 ∷ 7 ∷ 22 ∷ 23 ∷ 0 ∷ 25 ∷ 26 ∷ 27 ∷ 28 ∷ replicate 4 M) (5 ∷ [])) (remove 0 0 ∷ [])
    ++ leaving eight (world 16 (headed 5 28 1) (0 ∷ 13 ∷ 22 ∷ 23 ∷ 7 ∷ 21 ∷ 22 ∷ 23 ∷ 0 ∷ 28 ∷ 26 ∷ 27 ∷ replicate 4 M) (5 ∷ [])) (swap_remove 0 4 ∷ [])
    ++ leaving eight (world 16 (headed 25 5 1) (0 ∷ 13 ∷ 22 ∷ 23 ∷ 3 ∷ 21 ∷ 22 ∷ 23 ∷ 28 ∷ replicate 7 M) (5 ∷ [])) (truncate 0 3 ∷ [])
    -- `copy_from` takes its source words after the shift: word 1 is 1, not 20
    ++ leaving (world 8 (headed 0 0 0) (4 ∷ 10 ∷ 11 ∷ 12 ∷ 1 ∷ 20 ∷ 0 ∷ 0 ∷ []) (1 ∷ 5 ∷ []))
    (world 8 (headed 0 0 0) (5 ∷ 1 ∷ 10 ∷ 11 ∷ 12 ∷ 1 ∷ 0 ∷ 0 ∷ []) (1 ∷ 5 ∷ [])) (copy_from 0 1 0 1 0 ∷ [])
    -- and after the move, by the source's own handle: word 5 is 9, not 41
    ++ leaving (world 12 (headed 13 5 0) (3 ∷ 7 ∷ 8 ∷ 9 ∷ 0 ∷ 33 ∷ 31 ∷ 32 ∷ 2 ∷ 41 ∷ 42 ∷ 43 ∷ []) (1 ∷ 9 ∷ []))
    (world 12 (headed 1 33 0) (0 ∷ 13 ∷ 8 ∷ 9 ∷ 5 ∷ 9 ∷ 42 ∷ 7 ∷ 8 ∷ 9 ∷ 42 ∷ 43 ∷ []) (5 ∷ 9 ∷ [])) (copy_from 0 1 0 2 0 ∷ [])
    -- "all read before any is written": word 7 is 30, not 20
    ++ leaving (world 8 (headed 0 0 0) (5 ∷ 10 ∷ 11 ∷ 12 ∷ 2 ∷ 20 ∷ 30 ∷ 31 ∷ []) (1 ∷ 5 ∷ []))
    (world 8 (headed 0 0 0) (7 ∷ 10 ∷ 11 ∷ 12 ∷ 2 ∷ 20 ∷ 20 ∷ 30 ∷ []) (1 ∷ 5 ∷ [])) (copy_from 0 1 0 2 5 ∷ [])
    -- `deep_clone` reads its elements after the length is written: word 8 is 4, not 0
    ++ leaving (world 12 (headed 0 5 0) (4 ∷ 10 ∷ 11 ∷ 12 ∷ replicate 8 0) (1 ∷ 0 ∷ []))
    (world 12 (headed 0 0 0) (4 ∷ 10 ∷ 11 ∷ 12 ∷ 4 ∷ 10 ∷ 11 ∷ 12 ∷ 4 ∷ 0 ∷ 0 ∷ 0 ∷ []) (1 ∷ 5 ∷ [])) (deep_clone 0 1 ∷ [])

-- every row is what the rules give
pub lowest_rows : map computed lowest ≡ lowest
unfolding lowest computed
lowest_rows = refl

pub cause_rows : map computed causes ≡ causes
unfolding causes computed
cause_rows = refl

pub limit_rows : map computed limits ≡ limits
unfolding limits computed
limit_rows = refl

pub deed_rows : map computed deeds ≡ deeds
unfolding deeds computed
deed_rows = refl

pub overlap_rows : map computed overlaps ≡ overlaps
unfolding overlaps computed
overlap_rows = refl
