-- The result of reading a line.
use Rattle.std.specs.Prelude.{List, ℕ, [], Option, Some, None, Result, Ok, Err}
use Rattle.std.specs.Borrow.{Bor}
use Rattle.sessions.specs.AccountsFile.{Said, nothing, an_author, a_hash, a_peer, a_person, words}
use Rattle.sessions.specs.declared.line.AccountLine as line
use Rattle.sessions.specs.declared.line.AccountLine.TheVariants.{Skip, Author, Hash, Peer, Person}
use Rattle.sessions.specs.declared.mistake.Mistake.{Mistake}

-- the meaning of a line that was read
abbrev pub said : line.AccountLine → Said
said Skip = nothing
said (Author name token) = an_author name.now token.now
said (Hash name hash) = a_hash name.now hash.now
said (Peer number token address) = a_peer number token.now address.now
said (Person name id display) = a_person name.now id.now display.now

-- the meaning of a line that was read, or what is wrong with it
abbrev pub said_or_mistake : Result line.AccountLine Mistake → Result Said Mistake
said_or_mistake (Ok line) = Ok (said line)
said_or_mistake (Err mistake) = Err mistake

-- the words after the first, if any
abbrev pub words_behind : Option (Bor (List ℕ)) → List (List ℕ)
words_behind None = []
words_behind (Some rest) = words rest.now
