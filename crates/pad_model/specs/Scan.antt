-- Where RGA puts a text that is inserted at once (Roh, Jeon, Kim and Lee 2011): after its parent, past each newer
-- character.
use Rattle.std.specs.Prelude.{if◌then◌else◌, List, [], ◌∷◌, ◌++◌, Option, Some, None}
use Rattle.pad_model.specs.Stamp.{Stamp, newer, same_stamp}
use Rattle.pad_model.specs.Character.{Character}

-- the items with the block inserted past each item newer than its first stamp
abbrev pub scan_from : {A : Type 0} → (A → Character) → Stamp → List A → List A → List A
scan_from at first block [] = block
scan_from at first block (x ∷ xs) = if newer (at x).stamp first then x ∷ scan_from at first block xs
    else block ++ x
    ∷ xs

-- the items with the block inserted after the item with the stamp p, and past each newer item
abbrev pub scan_behind : {A : Type 0} → (A → Character) → Stamp → Stamp → List A → List A → List A
scan_behind at p first block [] = block
scan_behind at p first block (x ∷ xs) =
    if same_stamp (at x).stamp p then x ∷ scan_from at first block xs
    else x ∷ scan_behind at p first block xs

-- the items with the block inserted after its parent, and past each newer item
abbrev pub put : {A : Type 0} → (A → Character) → Option Stamp → Stamp → List A → List A → List A
put at None first block xs = scan_from at first block xs
put at (Some p) first block xs = scan_behind at p first block xs

-- the items with the block inserted directly after its parent
abbrev pub put_right_behind : {A : Type 0} → (A → Character) → Option Stamp → List A → List A
    → List A
put_right_behind at None block xs = block ++ xs
put_right_behind at (Some p) block [] = block
put_right_behind at (Some p) block (x ∷ xs) = if same_stamp (at x).stamp p then x ∷ block ++ xs
    else x
    ∷ put_right_behind at (Some p) block xs
