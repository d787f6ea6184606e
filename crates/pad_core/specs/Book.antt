-- The book of comments that is kept beside a log.
use Rattle.std.specs.Prelude.{ℕ, suc, Bool, true, not, ◌&&◌, nat_lt, List, [], ◌∷◌, length, None, fold}
use Rattle.pad_model.specs.Operation.{author_of}
use Rattle.pad_model.specs.declared.op.Op.{Op}
use Rattle.pad_model.specs.declared.op.Part.{Part}
use Rattle.pad_model.specs.declared.op.Part.TheVariants.{Insert, Delete, Comment, Resolve}
use Rattle.pad_model.specs.declared.op.OpName.{OpName}
use Rattle.pad_model.specs.declared.limits.TheConstants.{MAX_COMMENTS}
use Rattle.comments.specs.Comments.{is_comment, with_comment, with_resolution}
use Rattle.comments.specs.declared.comment.Comment as kept

-- the book once a part of an operation is made, at the revision of the operation
abbrev pub entered : ℕ → Op → List kept.Comment → Part → List kept.Comment
entered rev op book (Insert run) = book
entered rev op book (Delete spans) = book
entered rev op book (Comment first last text) =
    with_comment (record {
      name = op.name;
      first = first;
      last = last;
      author = author_of op;
      text = text;
      born = rev;
      resolved = None;
    }) book
entered rev op book (Resolve comment) = with_resolution comment rev book

-- whether a book takes a part of the operation of a name: the name of a comment is new and there is room for it, and
-- what is resolved is a comment
abbrev pub may_enter : OpName → List kept.Comment → Part → Bool
may_enter name book (Insert run) = true
may_enter name book (Delete spans) = true
may_enter name book (Comment first last text) = not (is_comment name book)
    && nat_lt (length book) MAX_COMMENTS
may_enter name book (Resolve comment) = is_comment comment book

-- the book once more operations are made, the first of them at this revision
abbrev pub book_from : ℕ → List kept.Comment → List Op → List kept.Comment
book_from rev book [] = book
book_from rev book (op ∷ log) = book_from (suc rev) (fold (entered rev op) book op.parts) log

-- the book of a log
abbrev pub book_of : List Op → List kept.Comment
book_of log = book_from 1 [] log
