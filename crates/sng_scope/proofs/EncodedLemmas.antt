-- The bytes that a text of base64url stands for are those to which it decodes.
use Rattle.std.proofs.Common.{◌≡◌, ℕ, List, Result, Ok, Err, ok_or, ap}
use Rattle.std.specs.Result.{result_ok}
use Rattle.base64.specs.Engines.{url_safe_no_pad}
use Rattle.base64.specs.GeneralPurpose.{decode_of, decoded_of}
use Rattle.base64.specs.declared.decode.DecodeError.{DecodeError}
use Rattle.sng_scope.specs.Texts.{bytes_of}
use Rattle.sng_scope.specs.declared.fault.PolicyFault.TheVariants.{BadBase64}

pub bytes_of-decoded : (text bytes : List ℕ) → decode_of url_safe_no_pad text ≡ Ok bytes
    → bytes_of text ≡ Ok bytes
unfolding decoded_of
bytes_of-decoded text bytes is = ap (λ (r : Result (List ℕ) DecodeError). ok_or (result_ok r) BadBase64) is

pub bytes_of-refused : (text : List ℕ) (e : DecodeError) → decode_of url_safe_no_pad text ≡ Err e
    → bytes_of text ≡ Err BadBase64
unfolding decoded_of
bytes_of-refused text e is = ap (λ (r : Result (List ℕ) DecodeError). ok_or (result_ok r) BadBase64) is
