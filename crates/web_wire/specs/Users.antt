-- Who a request's user is, if a proxy names one.
use Rattle.std.specs.Prelude.{ℕ, Bool, true, not, ◌&&◌, ◌||◌, ◌==◌, is_some, List, Option, None, Some}
use Rattle.std.specs.List.{list_any}
use Rattle.websocket.specs.Headers.{Fields, header_value}
use Rattle.web_wire.specs.Fields.{is_single}
use Rattle.web_wire.specs.declared.page.UserHeader.{UserHeader}

-- whether an address is that of a proxy
abbrev pub is_proxy : List ℕ → ℕ → Bool
is_proxy proxies from = list_any (λ one. one == from) proxies

-- whether a request from this address may name the user that its head names: it names none, or one alone and comes from
-- a proxy
abbrev pub may_name : Option UserHeader → ℕ → Fields → Bool
may_name None from head_fields = true
may_name (Some header) from head_fields =
    is_single head_fields header.name.now
    && (not (is_some (header_value head_fields header.name.now)) || is_proxy header.proxies.now from)

-- the user that a head names: the value of the field that proxies set
abbrev pub user_of : Option UserHeader → Fields → Option (List ℕ)
user_of None head_fields = None
user_of (Some header) head_fields = header_value head_fields header.name.now
