-- How what stands below a node moves as one of its maps does.
use Rattle.std.proofs.Common.{◌≡◌, ℕ, Bool, true, false, ◌&&◌, ◌==◌, List, [], ◌∷◌, Option, Some, None}
use Rattle.std.proofs.Common.{cond, if◌then◌else◌, refl, sym, ap, ◌∙◌, subst}
use Rattle.std.proofs.lemmas.Bool.{and_parts, and_right}
use Rattle.std.proofs.lemmas.Slice.Eq.{bytes_eq-Decides}
use Rattle.std.specs.Str.{bytes_eq}
use Rattle.sng_text.specs.Levels.{levels_of}
use Rattle.sng_text.specs.declared.qos.Qos.{Qos}
use Rattle.sng_standing.specs.declared.node.Node.{Node, out-Node}
use Rattle.sng_standing.specs.Tree.{qos_here, node_below, in_node, qos_left, qos_at, is_idle}
use Rattle.sng_standing.specs.Standing.{same_levels, IsBare, SaysSame, Moves, IsOne, MovesAt}
use Rattle.sng_standing.proofs.Levels.{none_in, same_texts}

-- there is another node at the level, below which what the client has at one filter is another
moved_below : (before after next : Node) (was : Option Node) (client : ℕ) (level : List ℕ)
    (levels : List (List ℕ)) (now : Option Qos)
    → ((n : ℕ) → qos_here after n ≡ qos_here before n)
    → node_below before level ≡ was
    → ((other : List ℕ) → node_below after other
    ≡ cond (bytes_eq level other) (Some next) (node_below before other))
    → ((n : ℕ) (others : List (List ℕ)) → qos_left next n others
    ≡ (if (client == n) && same_levels levels others
    then now
    else in_node was (λ child. qos_left child n others)))
    → Moves before after client (level ∷ levels) now
moved_below before after next was client level levels now here was_is below moves n [] =
    here n ∙ ap (λ b. cond b now (qos_here before n)) (sym (and_right (client == n) false refl))
moved_below before after next was client level levels now here was_is below moves n (other ∷ others) =
    ap (λ x. in_node x (λ child. qos_left child n others)) (below other)
    ∙ by_level (bytes_eq level other) refl
  where
    by_level : (same : Bool) → bytes_eq level other ≡ same
        → in_node (cond same (Some next) (node_below before other)) (λ child. qos_left child n others)
        ≡ (if (client == n) && (same && same_levels levels others)
        then now
        else in_node (node_below before other) (λ child. qos_left child n others))
    by_level true is =
        let level_is : level ≡ other = (bytes_eq-Decides level other).0 is in
        let there : was ≡ node_below before other = sym was_is ∙ ap (node_below before) level_is in
        moves n others
        ∙ ap (λ x. cond ((client == n) && same_levels levels others) now
        (in_node x (λ child. qos_left child n others))) there
    by_level false is =
        ap (λ b. cond b now (in_node (node_below before other) (λ child. qos_left child n others)))
        (sym (and_right (client == n) false refl))

-- the same where the node was there
pub moved_child : (before after child next : Node) (client : ℕ) (level : List ℕ) (levels : List (List ℕ))
    (now : Option Qos)
    → ((n : ℕ) → qos_here after n ≡ qos_here before n)
    → node_below before level ≡ Some child
    → ((other : List ℕ) → node_below after other
    ≡ cond (bytes_eq level other) (Some next) (node_below before other))
    → Moves child next client levels now
    → Moves before after client (level ∷ levels) now
moved_child before after child next client level levels now here was below moves =
    moved_below before after next (Some child) client level levels now here was below moves

-- the same where it was not
pub moved_branch : (before after next : Node) (client : ℕ) (level : List ℕ) (levels : List (List ℕ))
    (qos : Qos)
    → ((n : ℕ) → qos_here after n ≡ qos_here before n)
    → node_below before level ≡ None
    → ((other : List ℕ) → node_below after other
    ≡ cond (bytes_eq level other) (Some next) (node_below before other))
    → IsOne next client levels qos
    → Moves before after client (level ∷ levels) (Some qos)
moved_branch before after next client level levels qos here was below one =
    moved_below before after next None client level levels (Some qos) here was below one

-- nobody holds anything below an idle node
idle_here : (node : Node) → is_idle node ≡ true → (n : ℕ) → qos_here node n ≡ None
idle_here node idle n = none_in _ (out-Node node).here.entries (and_parts _ _ idle).0

pub idle_below : (node : Node) → is_idle node ≡ true → (level : List ℕ) → node_below node level ≡ None
idle_below node idle level = none_in _ (out-Node node).below.entries (and_parts _ _ idle).1

pub idle_bare : (node : Node) → is_idle node ≡ true → IsBare node
idle_bare node idle n [] = idle_here node idle n
idle_bare node idle n (level ∷ levels) =
    ap (λ x. in_node x (λ child. qos_left child n levels)) (idle_below node idle level)

-- what moves from an idle node is one filter
pub one_of_idle : (before after : Node) (client : ℕ) (levels : List (List ℕ)) (qos : Qos)
    → is_idle before ≡ true → Moves before after client levels (Some qos) → IsOne after client levels qos
one_of_idle before after client levels qos idle moves n others =
    moves n others
    ∙ ap (cond ((client == n) && same_levels levels others) (Some qos)) (idle_bare before idle n others)

-- the same clients hold the filter that ends here, and the same nodes are below
pub same_parts : (before after : Node) → ((n : ℕ) → qos_here after n ≡ qos_here before n)
    → ((level : List ℕ) → node_below after level ≡ node_below before level) → SaysSame before after
same_parts before after here below n [] = here n
same_parts before after here below n (level ∷ levels) =
    ap (λ x. in_node x (λ child. qos_left child n levels)) (below level)

-- an idle node may go
pub same_without : (before after child : Node) (level : List ℕ)
    → ((n : ℕ) → qos_here after n ≡ qos_here before n)
    → node_below before level ≡ Some child → is_idle child ≡ true
    → ((other : List ℕ) → node_below after other ≡ cond (bytes_eq level other) None (node_below before other))
    → SaysSame before after
same_without before after child level here there idle below n [] = here n
same_without before after child level here there idle below n (other ∷ others) =
    ap (λ x. in_node x (λ c. qos_left c n others)) (below other) ∙ by_level (bytes_eq level other) refl
  where
    by_level : (same : Bool) → bytes_eq level other ≡ same
        → in_node (cond same None (node_below before other)) (λ c. qos_left c n others)
        ≡ in_node (node_below before other) (λ c. qos_left c n others)
    by_level true is =
        let level_is : level ≡ other = (bytes_eq-Decides level other).0 is in
        let found : node_below before other ≡ Some child = sym (ap (node_below before) level_is) ∙ there in
        sym (ap (λ x. in_node x (λ c. qos_left c n others)) found ∙ idle_bare child idle n others)
    by_level false is = refl

-- a node that says the same stands in its place
pub same_child : (before after child next : Node) (level : List ℕ)
    → ((n : ℕ) → qos_here after n ≡ qos_here before n)
    → node_below before level ≡ Some child → SaysSame child next
    → ((other : List ℕ) → node_below after other
    ≡ cond (bytes_eq level other) (Some next) (node_below before other))
    → SaysSame before after
same_child before after child next level here there same below n [] = here n
same_child before after child next level here there same below n (other ∷ others) =
    ap (λ x. in_node x (λ c. qos_left c n others)) (below other) ∙ by_level (bytes_eq level other) refl
  where
    by_level : (is_own : Bool) → bytes_eq level other ≡ is_own
        → in_node (cond is_own (Some next) (node_below before other)) (λ c. qos_left c n others)
        ≡ in_node (node_below before other) (λ c. qos_left c n others)
    by_level true is =
        let level_is : level ≡ other = (bytes_eq-Decides level other).0 is in
        let found : node_below before other ≡ Some child = sym (ap (node_below before) level_is) ∙ there in
        same n others ∙ sym (ap (λ x. in_node x (λ c. qos_left c n others)) found)
    by_level false is = refl

pub moved_same : (before between after : Node) (client : ℕ) (levels : List (List ℕ)) (now : Option Qos)
    → Moves before between client levels now → SaysSame between after → Moves before after client levels now
moved_same before between after client levels now moves same n others = same n others ∙ moves n others

-- the same of texts
pub moved_at : (before after : Node) (client : ℕ) (filter : List ℕ) (now : Option Qos)
    → Moves before after client (levels_of filter) now → MovesAt before after client filter now
moved_at before after client filter now moves n other =
    moves n (levels_of other)
    ∙ ap (λ b. cond ((client == n) && b) now (qos_at before n other)) (same_texts filter other)

-- the levels may be given in other words
pub moved_levels : (before after : Node) (client : ℕ) (levels others : List (List ℕ)) (now : Option Qos)
    → others ≡ levels → Moves before after client levels now → Moves before after client others now
moved_levels before after client levels others now is moves =
    subst (λ (ls : List (List ℕ)). Moves before after client ls now) (sym is) moves

pub one_levels : (node : Node) (client : ℕ) (levels others : List (List ℕ)) (qos : Qos) → others ≡ levels
    → IsOne node client levels qos → IsOne node client others qos
one_levels node client levels others qos is one =
    subst (λ (ls : List (List ℕ)). IsOne node client ls qos) (sym is) one
