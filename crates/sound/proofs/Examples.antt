-- Computed examples: the state of bench sheet P8 is sound, that of P9, where two slots have one block, is not, and P12's list is the one that `grow_at` means.
use Rattle.std.specs.Prelude.{refl, List, [], ◌∷◌, ℕ, set, replicate}
use Rattle.std.proofs.Common.{arith}
use Rattle.words.specs.Runs.{filled, copied, stored}
use Rattle.sizes.specs.Class.{class_count, class_of, size_of}
use Rattle.pool.specs.declared.ListPool.{ListPool}
use Rattle.pool.specs.Numbers.{◌or_else◌, state_of, length_at, sound_handle, sound_head, given, too_long, over_limit}
use Rattle.pool.specs.Numbers.{entry_number, bad_head, no_room, room_number, needs_block, need_number}
use Rattle.pool.specs.Blocks.{MAX, recycled, fresh, alloc, free, realloc, moved}
use Rattle.pool.specs.Rules.{number_of, done_of, at_number, push_done, last_removed, grown, opened, grow_number, grow_at_number, grow_at_done}
use Rattle.pool.specs.Rules.{from_slice_number, from_slice_done, extend_done, remove_number, remove_done, clear_pool_number, clear_pool_done}
use Rattle.sound.specs.Sound.{sum, over, live_over, Sound, SoundWith}
use Rattle.sound.proofs.Grow.{push_holds, extend_holds, from_slice_holds, grow_at_holds}
use Rattle.sound.proofs.Shrink.{remove_holds}
use Rattle.sound.proofs.Cleared.{clear_pool_holds}
use Rattle.sound.specs.Sequences.{insert_all, open_at, remove_at}
use Rattle.sound.specs.ListEffects.{behind}

-- P8: "words 0,0,8,9,4,5,1,2,3,M,M,M,3,8,9,10; handles 13,5,0; head 0 is 1, head 1 is 0"
abbrev state_p8 : ListPool
state_p8 = state_of 16 (set (replicate class_count 0) 0 1)

abbrev words_p8 : List ℕ
words_p8 = 0 ∷ 0 ∷ 8 ∷ 9 ∷ 4 ∷ 5 ∷ 1 ∷ 2 ∷ 3 ∷ MAX ∷ MAX ∷ MAX ∷ 3 ∷ 8 ∷ 9 ∷ 10 ∷ []

-- P9: "P8 with slot 2 set to 5"
pub p9_unsound : Sound state_p8 words_p8 (13 ∷ 5 ∷ 5 ∷ []) → ⊥
unfolding sum live_over over class_of size_of
p9_unsound (fs, cut) = omega (arith, cut.once 4)

-- by the theorems on its seven calls, from a cleared pool
pub p8_holds : SoundWith state_p8 words_p8 (13 ∷ 5 ∷ 0 ∷ []) ((8 ∷ 9 ∷ 10 ∷ []) ∷ (5 ∷ 1 ∷ 2 ∷ 3 ∷ []) ∷ [] ∷ [])
unfolding number_of done_of at_number push_done last_removed grown grow_number extend_done remove_number remove_done clear_pool_number clear_pool_done
    ◌or_else◌ length_at sound_handle sound_head given too_long over_limit entry_number bad_head no_room room_number needs_block need_number
    recycled fresh alloc free realloc moved filled copied stored class_of size_of remove_at
p8_holds =
    let H0 = clear_pool_holds (state_of 0 []) (replicate 16 0) (replicate 3 0) refl in
    let H1 = push_holds H0 0 7 refl in
    let H2 = push_holds H1 0 8 refl in
    let H3 = push_holds H2 0 9 refl in
    let H4 = push_holds H3 0 10 refl in
    let H5 = push_holds H4 1 5 refl in
    let H6 = remove_holds H5 0 0 refl in
    extend_holds H6 1 (1 ∷ 2 ∷ 3 ∷ []) refl

-- P12: "list 7,8 in a fresh block, `grow_at` 0 by 1: list 7,7,8."
pub p12_holds : SoundWith (state_of 4 (replicate class_count 0)) (3 ∷ 7 ∷ 7 ∷ 8 ∷ replicate 12 0) (1 ∷ 0 ∷ 0 ∷ []) ((7 ∷ 7 ∷ 8 ∷ []) ∷ [] ∷ [] ∷ [])
unfolding number_of done_of grown opened from_slice_number from_slice_done grow_at_number grow_at_done clear_pool_number clear_pool_done
    ◌or_else◌ length_at sound_handle sound_head given too_long over_limit entry_number bad_head no_room room_number needs_block need_number
    fresh alloc moved filled copied stored class_of size_of open_at insert_all behind
p12_holds =
    let H0 = clear_pool_holds (state_of 0 []) (replicate 16 0) (replicate 3 0) refl in
    let H1 = from_slice_holds H0 0 (7 ∷ 8 ∷ []) refl in
    grow_at_holds H1 0 0 1 refl
