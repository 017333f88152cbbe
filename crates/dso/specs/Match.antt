-- Which record types and classes a subscription asks for (01, "Records, matches and notices": "class is equal or asked as
-- 255, and type is equal, asked as 255, or the record is CNAME (5)"). Names are compared by `same_name`, which takes an
-- asterisk for a plain octet.
-- RFC 8765, 2: "the rules for which records match a given DNS Push Notification subscription are the same as the already
-- established rules used to determine which records match a given DNS query [RFC1034]. For example, name comparisons are
-- done in a case-insensitive manner, and a record of type CNAME in a zone matches any DNS TYPE in a query or
-- subscription." 6.2.1: "If one or both of TYPE or CLASS are ANY (255), then this subscription matches all types and/or
-- all classes as appropriate." "an asterisk character ("*") in a SUBSCRIBE message matches only a literal asterisk
-- character ("*") in a name and nothing else".
use Rattle.std.specs.Prelude.{ℕ, Bool, ◌&&◌, ◌||◌, eqb}
use Rattle.dso.specs.Judge.{any}

abbrev pub cname_type : ℕ
cname_type = 5

unfoldable pub asks_class : ℕ → ℕ → Bool
asks_class qclass class = eqb qclass class || eqb qclass any

unfoldable pub asks_type : ℕ → ℕ → Bool
asks_type qtype rtype = eqb qtype rtype || eqb qtype any || eqb rtype cname_type

-- Whether a record of a type and class is asked for by a type and class, the names being equal.
unfoldable pub asks_for : ℕ → ℕ → ℕ → ℕ → Bool
asks_for qtype qclass rtype class = asks_class qclass class && asks_type qtype rtype
