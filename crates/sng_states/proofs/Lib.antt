pub mod OpenIdLemmas
