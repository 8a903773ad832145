-- The grammar of AMQP URIs, `amqp://[user[:pass]@][host][:port][/vhost][?query]`, by parts: RabbitMQ's "AMQP URI
-- Specification" over RFC 3986. Bytes are numbered from 0 in the text of the URI.
use Rattle.std.specs.Prelude.{ℕ, ◌+◌, ◌-◌, ◌*◌, ◌==◌, nat_le, nat_lt, nat_eq, Bool, false, not, ◌&&◌, ◌||◌, List, [], ◌∷◌, length, drop, fold, codes, Option, Some, None, option_map, unwrap_or, if◌then◌else◌}
use Rattle.std.specs.List.{list_all, starts_with, before_first, after_first, position_or_len}
use Rattle.std.specs.Option.{option_map_or}
use Rattle.std.specs.Char.{is_ascii_alphanumeric, is_ascii_digit, is_ascii_hexdigit}
use Rattle.std.specs.Str.{is_utf8, byte}
use Rattle.percent_encoding.specs.Percent.{percent_decode}
use Rattle.amqp_uri.specs.declared.fault.UriFault.{UriFault}
use Rattle.amqp_uri.specs.declared.fault.UriFault.TheVariants.{Scheme, Escape, Host, Port, Rest}

-- ---- the parts, undecoded

-- "amqp://", with which every URI begins (AMQP URI Specification, section 2)
abbrev pub scheme : List ℕ
scheme = codes "amqp://"

-- the place at which the authority begins
abbrev pub authority_place : ℕ
authority_place = 7

-- '/', '?' and '#' end an authority (RFC 3986, section 3.2)
abbrev pub is_delimiter : ℕ → Bool
is_delimiter b = b == byte "/" || b == byte "?" || b == byte "#"

-- the byte stands among these
abbrev pub has_byte : ℕ → List ℕ → Bool
has_byte c bytes = nat_lt (position_or_len (λ b. b == c) bytes) (length bytes)

-- the authority, `user:pass@host:port` (RFC 3986, section 3.2)
unfoldable pub authority : List ℕ → List ℕ
authority text = before_first is_delimiter (drop authority_place text)

-- the user information, before the authority's first '@' (RFC 3986, section 3.2.1)
unfoldable pub user_info : List ℕ → List ℕ
user_info authority =
    if has_byte (byte "@") authority then before_first (λ b. b == byte "@") authority else []

-- the host and the port, behind the first '@' (RFC 3986, sections 3.2.2 and 3.2.3)
unfoldable pub host_port : List ℕ → List ℕ
host_port authority =
    if has_byte (byte "@") authority then after_first (λ b. b == byte "@") authority else authority

-- the user, before the first ':' of the user information (AMQP URI Specification, section 2.1)
unfoldable pub user_part : List ℕ → List ℕ
user_part text = before_first (λ b. b == byte ":") (user_info (authority text))

-- the password, behind it (AMQP URI Specification, section 2.1)
unfoldable pub pass_part : List ℕ → List ℕ
pass_part text = after_first (λ b. b == byte ":") (user_info (authority text))

-- the place of the password
abbrev pub pass_place : List ℕ → ℕ
pass_place text = authority_place + length (user_part text) + 1

-- the host, before the first ':' of host and port (AMQP URI Specification, section 2.2)
unfoldable pub host_part : List ℕ → List ℕ
host_part text = before_first (λ b. b == byte ":") (host_port (authority text))

-- the port, behind the first ':' of host and port, if there is one (AMQP URI Specification, section 2.3)
unfoldable pub port_behind : List ℕ → Option (List ℕ)
port_behind host_port =
    if has_byte (byte ":") host_port then Some (after_first (λ b. b == byte ":") host_port) else None

-- the port of the URI
unfoldable pub port_part : List ℕ → Option (List ℕ)
port_part text = port_behind (host_port (authority text))

-- the place of what follows the authority
abbrev pub path_place : List ℕ → ℕ
path_place text = authority_place + length (authority text)

-- what follows the authority
unfoldable pub path : List ℕ → List ℕ
path text = drop (path_place text) text

-- what follows a '/' at the front of the path, if it begins with one
abbrev pub behind_slash : List ℕ → Option (List ℕ)
behind_slash [] = None
behind_slash (b ∷ rest) = if b == byte "/" then Some rest else None

-- the virtual host, behind the path's '/', if the URI names one (AMQP URI Specification, section 2.4)
unfoldable pub vhost_part : List ℕ → Option (List ℕ)
vhost_part text = option_map (before_first is_delimiter) (behind_slash (path text))

-- the place of the virtual host
abbrev pub vhost_place : List ℕ → ℕ
vhost_place text = path_place text + 1

-- what follows the virtual host
unfoldable pub rest_part : List ℕ → List ℕ
rest_part text =
    option_map_or (λ behind. drop (position_or_len is_delimiter behind) behind) (behind_slash (path text)) (path text)

-- its place
abbrev pub rest_place : List ℕ → ℕ
rest_place text = length text - length (rest_part text)

-- ---- what the parts say, and their faults

-- the port where the text names none (AMQP URI Specification, section 2.3)
abbrev pub default_port : ℕ
default_port = 5672

-- the number that decimal digits write
abbrev pub decimal_value : List ℕ → ℕ
decimal_value digits = fold (λ n digit. 10 * n + (digit - byte "0")) 0 digits

-- the digits write a port number, 1 to 65,535 (RFC 6335, section 6: port 0 is reserved)
unfoldable pub is_port : List ℕ → Bool
is_port digits = list_all is_ascii_digit digits && (nat_le 1 (decimal_value digits) && nat_le (decimal_value digits) 65535)

-- the port that the part says
unfoldable pub port_of : Option (List ℕ) → ℕ
port_of None = default_port
port_of (Some digits) = decimal_value digits

-- a byte that a host's name may have (RFC 952 with '_'; no address in brackets)
abbrev pub is_host_byte : ℕ → Bool
is_host_byte b = is_ascii_alphanumeric b || (b == byte "-" || (b == byte "." || b == byte "_"))

-- two hexadecimal digits begin the bytes
abbrev pub begin_with_digits : List ℕ → Bool
begin_with_digits [] = false
begin_with_digits (high ∷ []) = false
begin_with_digits (high ∷ low ∷ rest) = is_ascii_hexdigit high && is_ascii_hexdigit low

-- the place of the first '%' that lacks its two hexadecimal digits (RFC 3986, section 2.1), where the bytes begin at
-- this place
unfoldable pub bad_escape : ℕ → List ℕ → Option ℕ
bad_escape place [] = None
bad_escape place (b ∷ rest) =
    if b == byte "%" && not (begin_with_digits rest) then Some place else bad_escape (place + 1) rest

-- the place of the first '%'
abbrev pub first_escape : ℕ → List ℕ → ℕ
first_escape place part = place + position_or_len (λ b. b == byte "%") part

-- the fault of a part with escapes, which begins at this place: its first bad escape, or its first escape where what
-- it decodes to is no text
unfoldable pub escape_fault : ℕ → List ℕ → Option UriFault
escape_fault place part =
    if is_utf8 (percent_decode part) then option_map Escape (bad_escape place part)
    else Some (Escape (unwrap_or (bad_escape place part) (first_escape place part)))

-- a host has no other bytes
unfoldable pub host_fault : List ℕ → Option UriFault
host_fault host = if list_all is_host_byte host then None else Some Host

-- a port that is named is a number in its range
unfoldable pub port_fault : Option (List ℕ) → Option UriFault
port_fault None = None
port_fault (Some digits) = if is_port digits then None else Some Port

-- a virtual host has escapes
unfoldable pub vhost_fault : ℕ → Option (List ℕ) → Option UriFault
vhost_fault place None = None
vhost_fault place (Some vhost) = escape_fault place vhost

-- only a query may follow the virtual host: a second '/' and a '#' are refused, at this place
unfoldable pub rest_fault : ℕ → List ℕ → Option UriFault
rest_fault place [] = None
rest_fault place (b ∷ rest) = if b == byte "?" then None else Some (Rest place)

-- the first of two faults
abbrev pub first_fault : Option UriFault → Option UriFault → Option UriFault
first_fault None later = later
first_fault (Some fault) later = Some fault

-- the fault of user and password
unfoldable pub user_info_fault : List ℕ → Option UriFault
user_info_fault text =
    first_fault (escape_fault authority_place (user_part text)) (escape_fault (pass_place text) (pass_part text))

-- the fault of host and port
unfoldable pub host_port_fault : List ℕ → Option UriFault
host_port_fault text = first_fault (host_fault (host_part text)) (port_fault (port_part text))

-- the fault of the virtual host and of what follows it
unfoldable pub path_fault : List ℕ → Option UriFault
path_fault text = first_fault (vhost_fault (vhost_place text) (vhost_part text)) (rest_fault (rest_place text) (rest_part text))

-- the first fault of a text, in reading order, or none where it is an AMQP URI
unfoldable pub uri_fault : List ℕ → Option UriFault
uri_fault text =
    if starts_with nat_eq text scheme
    then first_fault (user_info_fault text) (first_fault (host_port_fault text) (path_fault text))
    else Some Scheme
