-- The responses of the address of the status.
use Rattle.std.specs.Prelude.{ℕ, Bool, true, false, List, [], ◌++◌, length, codes, decimal}
use Rattle.server_counts.specs.declared.responses.Status.{Status}
use Rattle.server_counts.specs.declared.responses.Status.TheVariants as status

-- the rest of the first line of a response; with 405 also the methods that there are
abbrev pub status_text : Status → List ℕ
status_text status.Ok = codes "200 OK"
status_text status.BadRequest = codes "400 Bad Request"
status_text status.NotFound = codes "404 Not Found"
status_text status.NotAllowed = codes "405 Method Not Allowed\r\nAllow: GET, HEAD"
status_text status.Unavailable = codes "503 Service Unavailable"

-- the content that is sent: none to `HEAD`
abbrev pub sent : List ℕ → Bool → List ℕ
sent content true = []
sent content false = content

-- the head of a response whose content has so many bytes
abbrev pub head_text : Status → List ℕ → ℕ → List ℕ
head_text told content_type size = codes "HTTP/1.1 " ++ (status_text told ++ (codes "\r\nContent-Type: "
    ++ (content_type ++ (codes "\r\nContent-Length: " ++ (decimal size
    ++ codes "\r\nCache-Control: no-store\r\nX-Content-Type-Options: nosniff\r\nConnection: close\r\n\r\n")))))

-- the bytes of a response with this content
abbrev pub response_text : Status → List ℕ → List ℕ → Bool → List ℕ
response_text told content_type content is_head = head_text told content_type (length content) ++ sent content is_head
