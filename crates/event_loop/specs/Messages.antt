-- A WebSocket's messages as the lines of a conversation, and its replies as messages.
use Rattle.std.specs.Prelude.{◌≡◌, ℕ, ◌+◌, true, false, List, [], ◌∷◌, ◌++◌, take, drop}
use Rattle.std.specs.List.{list_any}
use Rattle.web_wire.specs.Messages.{is_feed, is_line, message_bytes, with_feed}
use Rattle.web_wire.specs.Socket.{GoesOn, Socket}
use Rattle.conversation.specs.Talk.{Talk, heard}

-- the conversation was given the line of the next message, with its line feed
abbrev pub GivesTo : Socket → Talk → List ℕ → Socket → Talk → List ℕ → Type 0
GivesTo old talk output new talked put =
    (line : List ℕ) × (is_line line ≡ true) × (talked ≡ heard talk (with_feed line))
    × GoesOn (line ∷ []) old output new put

-- the first line of the bytes ends there, at a line feed
abbrev pub IsFirst : List ℕ → ℕ → Type 0
IsFirst bytes end =
    (list_any is_feed (take end bytes) ≡ false)
    × (bytes ≡ with_feed (take end bytes) ++ drop (end + 1) bytes)

-- the first of the replies, up to its line feed, was appended to the output as a message
abbrev pub SaysFirst : List ℕ → List ℕ → List ℕ → List ℕ → Type 0
SaysFirst replies output rest put =
    (line : List ℕ) × (list_any is_feed line ≡ false) × (replies ≡ with_feed line ++ rest)
    × (put ≡ output ++ message_bytes line)
