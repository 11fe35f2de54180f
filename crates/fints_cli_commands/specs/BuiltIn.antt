-- The texts that the program has: those that it checks with no words, and an order table.
use Rattle.std.specs.Prelude.{ℕ, List, codes}
use Rattle.fints_cli_commands.specs.declared.built_in.TheConstants.{ALL_ORDERS}

unfoldable pub capture : List ℕ
capture =
    codes "HIBPA:3:3+12+280:10020030+Bank+1+1+300+0'\nHIPINS:9:1+1+1+0+5:38:6:::HKSAL:N:HKKAZ:N:HKCCS:J'\n"

unfoldable pub orders : List ℕ
orders =
    codes
    "[[order]]\nkind = \"HKSAL\"\nversion = 5\naccount = \"national\"\n[[order]]\nkind = \"HKKAZ\"\nversion = 5\naccount = \"national\"\n[[order]]\nkind = \"HKSAL\"\nversion = 7\naccount = \"international\"\n[[order]]\nkind = \"HKKAZ\"\nversion = 7\naccount = \"international\"\n[[order]]\nkind = \"HKCCS\"\nversion = 1\naccount = \"international\"\n"

unfoldable pub script : List ℕ
script =
    codes "[[step]]\nname = \"end\"\nsegments = [{kind = \"HKEND\", version = 1, elements = [\"$dialog\"]}]\n"

-- the order table that `orders` prints, and that is taken where none is named
unfoldable pub all_orders : List ℕ
all_orders = ALL_ORDERS.now
