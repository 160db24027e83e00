-- The stores of a call in a sequence, run by run, come to what `Sequences` says of it.
use Rattle.std.specs.Prelude.{◌≡◌, refl, List, ◌++◌, ℕ, ◌+◌, ◌-◌, ◌≤◌, ◌<◌, length, take, drop}
use Rattle.std.proofs.Common.{ap, ◌∙◌, append-nil, append_assoc, arith, length-append, length-drop, drop_of_length-le, take_at, drop_at, take_all}
use Rattle.std.proofs.Common.{length-take-le, take-add}
use Rattle.std.proofs.lemmas.List.Edits.{sets, sets-eq}
use Rattle.std.proofs.lemmas.List.{take-append-le, drop-append-le}
use Rattle.sound.specs.Sequences.{insert_all, remove_at}

pub length_insert : (p : ℕ) (xs l : List ℕ) → p ≤ length l → length (insert_all p xs l) ≡ length l + length xs
unfolding insert_all
length_insert p xs l h = simp (length-append, length-drop, length-take-le p l h) (omega arith)

-- the places at the end are filled
pub sets_end : (l zs xs : List ℕ) → length zs ≡ length xs → sets (l ++ zs) (length l) xs ≡ l ++ xs
sets_end l zs xs e =
    let n = length-append l zs in
    sets-eq xs (l ++ zs) (length l) (omega arith)
    ∙ ap (λ (r : List ℕ). take (length l) (l ++ zs) ++ xs ++ r) (drop_of_length-le (l ++ zs) {i = length l + length xs} (omega arith))
    ∙ append-nil (take (length l) (l ++ zs) ++ xs)
    ∙ ap (λ (r : List ℕ). r ++ xs) (take_at l zs (length l) refl)

-- the tail is shifted up: the opened places keep what stood there
pub sets_open : (l zs : List ℕ) (p : ℕ) → p ≤ length l
    → sets (l ++ zs) (p + length zs) (take (length l - p) (drop p (l ++ zs))) ≡ insert_all p (take (length zs) (drop p (l ++ zs))) l
unfolding insert_all
sets_open l zs p h =
    let k = length zs in
    let n = length-append l zs in
    let tail : take (length l - p) (drop p (l ++ zs)) ≡ drop p l =
    ap (take (length l - p)) (drop-append-le p l zs h) ∙ take_at (drop p l) zs (length l - p) (length-drop p l) in
    let d = length-drop p l in
    ap (sets (l ++ zs) (p + k)) tail
    ∙ sets-eq (drop p l) (l ++ zs) (p + k) (omega arith)
    ∙ ap (λ (r : List ℕ). take (p + k) (l ++ zs) ++ drop p l ++ r) (drop_of_length-le (l ++ zs) {i = p + k + length (drop p l)} (omega arith))
    ∙ append-nil (take (p + k) (l ++ zs) ++ drop p l)
    ∙ ap (λ (r : List ℕ). r ++ drop p l) (take-add p k (l ++ zs) ∙ ap (λ (r : List ℕ). r ++ take k (drop p (l ++ zs))) (take-append-le p l zs h))

-- and they are filled
pub sets_insert : (l xs ys : List ℕ) (p : ℕ) → p ≤ length l → length xs ≡ length ys → sets (insert_all p xs l) p ys ≡ insert_all p ys l
unfolding insert_all
sets_insert l xs ys p h e =
    let n = length-take-le p l h in
    let front : length (take p l ++ xs) ≡ p + length ys = length-append (take p l) xs ∙ omega arith in
    let all = length-append (take p l ++ xs) (drop p l) in
    sets-eq ys (take p l ++ xs ++ drop p l) p (omega arith)
    ∙ ap (λ (r : List ℕ). r ++ ys ++ drop (p + length ys) (take p l ++ xs ++ drop p l))
    (ap (take p) (append_assoc (take p l) xs (drop p l)) ∙ take_at (take p l) (xs ++ drop p l) p n)
    ∙ ap (λ (r : List ℕ). take p l ++ ys ++ r) (drop_at (take p l ++ xs) (drop p l) (p + length ys) front)

-- the tail is shifted down, and the last is gone
pub take_shift : (l : List ℕ) (p : ℕ) → p < length l → take (length l - 1) (sets l p (take (length l - (p + 1)) (drop (p + 1) l))) ≡ remove_at p l
unfolding remove_at
take_shift l p h =
    let d = length-drop (p + 1) l in
    let c : take (length l - (p + 1)) (drop (p + 1) l) ≡ drop (p + 1) l = take_all (length l - (p + 1)) (drop (p + 1) l) (omega arith) in
    ap (λ (r : List ℕ). take (length l - 1) (sets l p r)) c
    ∙ ap (take (length l - 1)) (sets-eq (drop (p + 1) l) l p (omega arith))
    ∙ take_at (take p l ++ drop (p + 1) l) (drop (p + length (drop (p + 1) l)) l) (length l - 1)
    (length-append (take p l) (drop (p + 1) l) ∙ omega (arith, length-take-le p l (omega arith)))
