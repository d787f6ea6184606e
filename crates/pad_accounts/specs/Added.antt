-- What an addition comes to.
use Rattle.std.specs.Prelude.{◌≡◌, ℕ, Bool, true, List, [], ◌∷◌, map, Ok}
use Rattle.std.specs.List.{list_all}
use Rattle.sessions.specs.Accounts.{Accounts, accounts_of, is_author}
use Rattle.pad_accounts.specs.Lines.{with_authors}
use Rattle.pad_accounts.specs.Links.{with_link}
use Rattle.pad_accounts.specs.declared.add.Addition.{Addition}
use Rattle.pad_accounts.specs.declared.link.LinkForm.{LinkForm}
use Rattle.pad_accounts.specs.declared.names.ListedName.{ListedName}
use Rattle.pad_accounts.specs.declared.new_author.NewAuthor.{NewAuthor}
use Rattle.pad_accounts.specs.declared.new_author.SecretKind.{SecretKind}

-- the names of authors who are added
abbrev pub names_of_new : List NewAuthor → List (List ℕ)
names_of_new new = map (λ author. author.name.now) new

-- the names that are to be added
abbrev pub names_to_add : List ListedName → List (List ℕ)
names_to_add names = map (λ named. named.name.now) names

-- whether each author logs in with their token
abbrev pub each_logs_in : Accounts → List NewAuthor → Bool
each_logs_in accounts new = list_all (λ author. is_author author.name.now author.token.items accounts) new

-- a text with a line for the link of each author behind it, in their order
abbrev pub with_links : List ℕ → LinkForm → List NewAuthor → List ℕ
with_links text form [] = text
with_links text form (author ∷ rest) =
    with_links (with_link text form author.name.now author.token.items) form rest

-- a text is an accounts file, by which each author logs in
abbrev pub LogInBy : List ℕ → List NewAuthor → Type 0
LogInBy text new =
    (accounts : Accounts) × ((accounts_of text ≡ Ok accounts) × (each_logs_in accounts new ≡ true))

-- the new text is the old one with a line for each author behind it, by which each of them logs in, and a link of each
-- is printed
pub record Adds (text : List ℕ) (new : List NewAuthor) (kind : SecretKind) (form : LinkForm) (done : Addition) : Type 0 where
  pub text_after : done.text.items ≡ with_authors kind text new
  pub links : done.links.items ≡ with_links [] form new
  pub log_in : LogInBy done.text.items new
