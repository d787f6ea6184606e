-- What `--at` takes.
use Rattle.std.specs.Prelude.{ℕ, Bool, false, ◌&&◌, ◌||◌, ◌==◌, nat_le, nat_lt, if◌then◌else◌, List, length, take, drop, codes, bytes_eq, Option, None, Some}
use Rattle.std.specs.List.{list_all}

-- a digit, a letter, or one of - . _ : [ ]
abbrev pub is_host_byte : ℕ → Bool
is_host_byte byte =
    (nat_le 48 byte && nat_le byte 57) || ((nat_le 65 byte && nat_le byte 90) || ((nat_le 97 byte && nat_le byte 122)
    || (byte == 45 || (byte == 46 || (byte == 95 || (byte == 58 || (byte == 91 || byte == 93)))))))

-- what follows `https://` or `http://`
abbrev pub host_of : List ℕ → Option (List ℕ)
host_of text =
    if bytes_eq (take 8 text) (codes "https://") then Some (drop 8 text)
    else if bytes_eq (take 7 text) (codes "http://") then Some (drop 7 text)
    else None

-- whether what follows a scheme is a host, perhaps with a port
abbrev pub is_host : Option (List ℕ) → Bool
is_host None = false
is_host (Some host) = nat_lt 0 (length host) && list_all is_host_byte host

-- an origin as a browser sends it: a scheme, a host, and perhaps a port, with nothing behind them (RFC 6454, section 6.2)
abbrev pub is_origin : List ℕ → Bool
is_origin text = is_host (host_of text)
